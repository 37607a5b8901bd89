pub mod Keys
pub mod Networks
pub mod SameTrees
