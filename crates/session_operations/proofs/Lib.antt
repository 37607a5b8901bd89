pub mod SheetNames
pub mod NamedSlots
pub mod NamesRead
pub mod ReadContents
pub mod Turning
pub mod Pushed
pub mod FilledCells
pub mod Following
pub mod GivenCells
pub mod WrittenCells
pub mod Stepped
pub mod PartsStepped
pub mod TurnedMarks
pub mod TouchedCells
pub mod Counted
pub mod Closed
pub mod Causes
pub mod Pasting
pub mod PastedCounts
mod TriedCosts
pub use Rattle.session_values.proofs.MentionedPlaces
pub use Rattle.session_values.proofs.Shifting
pub use Rattle.session_values.proofs.Following as KeptFollowing
