-- What only the proofs of bodies need.
pub mod Sets
pub mod Few
