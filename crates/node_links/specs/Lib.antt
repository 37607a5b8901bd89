pub mod Links
pub mod Nodes
pub mod Redirect
pub mod internal
