pub mod Found
pub mod Bands
pub mod Touching
pub mod Staying
pub mod Handing
