pub mod Putting
pub mod Exploring
pub mod Following
pub mod Reading
