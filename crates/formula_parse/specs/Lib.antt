pub mod Laws
pub mod Fronts
pub mod Migrated
pub mod internal
