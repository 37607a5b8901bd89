pub mod Meaning
pub mod Cells
pub mod Needs
pub mod Blocks
pub mod Still
