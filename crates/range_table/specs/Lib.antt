pub mod Blocks
pub mod Cells
pub mod Table
pub mod Ranges
pub mod Shifted
pub mod Laws
pub mod internal
