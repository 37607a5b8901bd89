pub mod Needs
pub mod internal
