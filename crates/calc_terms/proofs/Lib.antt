pub mod Choosing
pub mod CellsAlike
pub mod Reading
pub mod LinkedPlaces
pub mod WholeBlocks
pub mod FunctionWords
