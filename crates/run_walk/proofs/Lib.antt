pub mod Over
pub mod Fusion
pub mod Walking
pub mod Freeing
pub mod Arguments
pub mod Nodes
