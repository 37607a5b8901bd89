-- What only bodies need.
pub mod Same
