pub mod Items
pub mod Laws
pub mod Words
pub mod internal
