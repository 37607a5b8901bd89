pub mod Words
pub mod Forms
pub mod Arguments
pub mod Command
pub mod Lines
pub mod Laws
pub mod internal
