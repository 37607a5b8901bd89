pub mod ProbedSpans
pub mod ProbedBlocks
pub mod NearBlocks
pub mod ProbedWholes
pub mod LostLinks
pub mod Suspected
