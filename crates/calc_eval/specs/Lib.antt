pub mod Named
pub mod Filled
pub mod internal
