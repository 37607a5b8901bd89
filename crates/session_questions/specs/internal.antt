-- What only the proofs of bodies need.
pub mod Names
pub mod Links
pub mod Areas
pub mod Listing
pub mod ShownCells
