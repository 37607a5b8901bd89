-- What only the proofs of bodies need.
pub mod Hashed
pub mod Keys
pub mod Filings
pub mod Wholes
pub mod Files
pub mod Numbers
pub mod Touches
pub mod Nets
pub mod Arrows
pub mod Walked
pub mod Copied
pub mod BentNumbers
pub mod UserNumbers
pub mod ShiftedNumbers
