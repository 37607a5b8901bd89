pub mod FromTheLeft
pub mod Joining
pub mod Occurrences
pub mod Passing
pub mod Replacing
pub mod TrimmedWords
pub mod Trimming
