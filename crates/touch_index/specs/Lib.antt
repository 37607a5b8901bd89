pub mod Touched
pub mod Kept
pub mod Handed
pub mod Laws
pub mod internal
