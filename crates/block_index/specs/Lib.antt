pub mod Index
pub mod internal
