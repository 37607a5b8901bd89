pub mod Filling
pub mod Spread
pub mod Summaries
pub mod TotalOrder
