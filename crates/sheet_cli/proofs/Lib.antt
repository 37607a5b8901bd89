pub mod Endings
pub mod Outcomes
pub mod SourceRead
pub mod Tallies
