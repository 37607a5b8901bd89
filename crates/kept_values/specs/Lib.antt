pub mod Sought
pub mod Values
pub mod Shifted
pub mod Cycles
pub mod internal
