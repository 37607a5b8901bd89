pub mod NameEntries
pub mod Contents
pub mod Naming
pub mod Shifting
