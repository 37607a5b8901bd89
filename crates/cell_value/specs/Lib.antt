pub mod Cells
pub mod Fault
pub mod Filled
pub mod Laws
pub mod Scalar
pub mod Summary
pub mod internal
