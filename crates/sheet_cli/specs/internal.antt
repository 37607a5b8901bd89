-- What only the proofs of bodies need.
pub mod Answers
pub mod Ends
pub mod Tallied
