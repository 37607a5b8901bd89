pub mod Outcome
pub mod Opening
pub mod Ends
pub mod internal
