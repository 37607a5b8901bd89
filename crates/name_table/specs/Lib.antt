pub mod SheetLists
pub mod Listed
pub mod Words
pub mod Scopes
pub mod Named
pub mod Drafts
pub mod internal
pub mod Laws
