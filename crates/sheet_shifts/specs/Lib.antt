pub mod Met
pub mod Listed
pub mod internal
