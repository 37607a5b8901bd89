pub mod Marks
pub mod Changes
pub mod Rebound
pub mod NameMarks
pub mod Shifts
pub mod Gathered
