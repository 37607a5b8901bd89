-- What only the proofs of bodies need.
pub mod Rising
