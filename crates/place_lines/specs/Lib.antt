pub mod Spots
pub mod Moved
pub mod Laws
pub mod internal
