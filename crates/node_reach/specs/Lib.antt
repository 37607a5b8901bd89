pub mod Arrows
pub mod internal
