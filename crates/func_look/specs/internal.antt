-- What only bodies need.
pub mod Search
