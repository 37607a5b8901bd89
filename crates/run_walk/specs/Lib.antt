pub mod Run
pub mod internal
