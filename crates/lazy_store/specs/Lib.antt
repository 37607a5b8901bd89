pub mod Standing
pub mod Kept
pub mod Holders
pub mod Store
pub mod Laws
pub mod internal
