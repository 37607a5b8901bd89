pub mod Runs
pub mod Lines
pub mod Sheets
pub mod Laws
pub mod internal
