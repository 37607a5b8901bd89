-- What only the proofs of bodies need.
pub mod Front
pub mod Pieces
pub mod Progress
pub mod Stream
pub mod Tree
