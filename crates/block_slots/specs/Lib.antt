pub mod Segments
pub mod Slots
pub mod Laws
pub mod internal
