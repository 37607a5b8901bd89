-- What only the definition of slots and the proofs of bodies need.
pub mod Keys
