pub mod Keys
pub mod Grid
pub mod Draft
pub mod internal
