pub mod Chosen
pub mod Counting
pub mod Factors
pub mod Places
