pub mod Listing
pub mod Going
pub mod Axes
pub mod Ends
