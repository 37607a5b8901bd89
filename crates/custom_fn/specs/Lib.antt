pub mod Pairs
pub mod Answer
pub mod Rule
pub mod Word
pub mod Custom
pub mod Registry
pub mod internal
