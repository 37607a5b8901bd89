-- What only the proofs of bodies need.
pub mod Cells
pub mod Dropped
pub mod Exchange
pub mod Naming
pub mod Props
pub mod Stepping
pub mod Writing
