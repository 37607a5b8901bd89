pub mod SheetEntries
pub mod WordNumbers
pub mod KeyOrder
pub mod Holders
pub mod DraftedNames
