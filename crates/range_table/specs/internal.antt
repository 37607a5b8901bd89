-- What only the proofs of bodies need.
pub mod States
pub mod Tables
pub mod Filed
pub mod Files
pub mod Kept
pub mod GivenUp
pub mod Copied
pub mod Shifting
pub mod Rows
