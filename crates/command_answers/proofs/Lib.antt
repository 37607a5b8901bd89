pub mod Executed
pub mod LineBytes
pub mod LinkTexts
