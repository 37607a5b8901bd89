pub mod Carried
pub mod Following
pub mod Still
pub mod Laws
