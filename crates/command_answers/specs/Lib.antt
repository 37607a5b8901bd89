pub mod Asked
pub mod Replies
pub mod Sessions
pub mod internal
