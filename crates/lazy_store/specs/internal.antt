-- What only the proofs of bodies need.
pub mod Props
pub mod Recent
pub mod Steps
pub mod Sweeps
pub mod Pending
pub mod Passes
