pub mod Calendar
pub mod Laws
pub mod Signatures
pub mod Dates
