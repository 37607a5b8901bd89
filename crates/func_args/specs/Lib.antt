pub mod Answers
pub mod Arguments
pub mod Kinds
pub mod Lists
pub mod Signatures
