-- What only the proofs of bodies need.
pub mod Filling
pub mod Records
