pub mod Civil
pub mod Months
