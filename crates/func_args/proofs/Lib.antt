pub mod Summaries
pub mod Walk
