-- What only the proofs of bodies need.
pub mod Tables
pub mod Turns
pub mod Turned
pub mod Levels
pub mod Deepened
