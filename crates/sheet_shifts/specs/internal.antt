-- What only the proofs of bodies need.
pub mod Going
pub mod Left
