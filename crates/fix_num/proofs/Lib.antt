pub mod Rounded
pub mod Powers
pub mod Decimals
pub mod Magnitudes
pub mod SpelledDecimals
pub mod PlainTexts
