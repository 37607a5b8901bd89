pub mod Answering
pub mod Run
pub mod internal
