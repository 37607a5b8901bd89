-- What only the proofs of bodies need.
pub mod Walked
pub mod Freed
