pub mod Operators
pub mod internal
