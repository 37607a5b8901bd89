pub mod Hash
pub mod Laws
