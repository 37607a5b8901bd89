pub mod Accepted
pub mod Staying
pub mod Told
