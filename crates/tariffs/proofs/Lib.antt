pub mod NewNames
pub mod Risen
pub mod TableCases
