pub mod Aligned
pub mod Halves
pub mod Cutting
pub mod Crossing
