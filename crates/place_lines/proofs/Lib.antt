pub mod LowLines
pub mod Numbers
pub mod LineNumbers
pub mod Places
pub mod Known
pub mod Carried
pub mod Narrow
