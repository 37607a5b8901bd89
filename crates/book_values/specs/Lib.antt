pub mod Book
pub mod Names
pub mod Workbook
pub mod Values
pub mod Laws
