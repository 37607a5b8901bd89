pub mod Costs
pub mod Lists
pub mod Choosing
pub mod Data
pub mod BlockFilling
pub mod BlockChanges
pub mod FilledCells
