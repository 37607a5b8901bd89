pub mod Books
pub mod Folder
pub mod Laws
pub mod Outside
pub mod internal
