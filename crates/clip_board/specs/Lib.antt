pub mod Clips
pub mod internal
