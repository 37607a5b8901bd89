pub mod Joined
pub mod SheetsRead
