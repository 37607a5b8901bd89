pub mod Entries
mod Frames
mod GridCells
mod Walks
mod Agreeing
mod Lists
mod Sessions
mod Outcomes
pub mod Turning
mod Including
mod ListedIds
mod Swept
mod Settled
pub mod Unchanged
pub mod GivenNodes
mod ListedNodes
mod CellsTurned
mod Operating
mod OperationsTurned
mod NamesTurned
mod PartsTurned
