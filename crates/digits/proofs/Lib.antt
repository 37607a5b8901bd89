pub mod Numerals
pub mod Printed
pub mod Parts
