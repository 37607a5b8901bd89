pub mod Choose
pub mod Functions
pub mod Index
pub mod Look
pub mod Lookups
pub mod Matching
pub mod Taken
pub mod internal
