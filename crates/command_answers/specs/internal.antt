-- What only the proofs of bodies need.
pub mod Answers
pub mod Changes
pub mod Links
