-- What only bodies need.
pub mod Comparisons
pub mod Factors
