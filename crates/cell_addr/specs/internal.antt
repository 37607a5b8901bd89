-- What only the proofs of bodies need.
pub mod Blocks
pub mod OneSheet
