-- What only the proofs of bodies need.
pub mod Linked
pub mod Listed
pub mod Marked
pub mod Way
