-- What only the proofs of bodies need.
pub mod Linking
pub mod Noting
pub mod TakenAlong
