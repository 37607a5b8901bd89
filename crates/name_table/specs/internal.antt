-- What only the proofs of bodies need.
pub mod Fresh
pub mod Spellings
pub mod WordList
