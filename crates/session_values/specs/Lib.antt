pub mod Touched
pub mod Following
pub mod Shifting
pub mod Naming
pub mod Parts
pub mod Refreshed
pub mod Users
pub mod internal
pub use Rattle.kept_values.specs.Shifted
pub use Rattle.kept_values.specs.declared.values.Values as KeptValues
pub use Rattle.restored_values.specs.Suspects
pub use Rattle.marked_values.specs.Shifts
pub use Rattle.kept_values.specs.Values
pub use Rattle.marked_values.specs.Marks
