-- What only the proofs of bodies need.
pub mod Listing
pub mod Lists
pub mod Ways
pub mod Renewal
pub mod Exchange
pub mod Turned
pub mod Drafting
