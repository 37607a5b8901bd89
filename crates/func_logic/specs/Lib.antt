pub mod Functions
pub mod Logic
pub mod Tally
