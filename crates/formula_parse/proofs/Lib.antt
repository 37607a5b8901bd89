pub mod AsciiFronts
pub mod Pieces
pub mod GapWords
pub mod MigratedTokens
pub mod MigratedTrees
pub mod Streams
pub mod Symbols
pub mod Corners
pub mod ReaderRules
pub mod WholeTerms
pub mod ReaderLoops
pub mod SpeltTokens
pub mod ReadTexts
pub mod CanonicalRead
pub mod OpenFrames
pub mod SpeltReached
pub mod FrontsReached
pub mod WrongTokens
pub mod OnePlace
mod Whiles
mod Capitals
