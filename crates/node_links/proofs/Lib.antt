pub mod NodeSets
pub mod Sets
pub mod Relinking
pub mod Redirecting
pub mod Changes
pub mod Around
pub mod Making
