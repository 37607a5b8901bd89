-- What only the proofs of bodies need.
pub mod Passage
pub mod Walk
