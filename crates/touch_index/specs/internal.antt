-- What only the proofs of bodies need.
pub mod Bands
pub mod Points
