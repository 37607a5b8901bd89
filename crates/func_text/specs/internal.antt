-- What only bodies need.
pub mod Shown
pub mod Trim
