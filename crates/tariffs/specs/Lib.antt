pub mod Tariffs
pub mod internal
