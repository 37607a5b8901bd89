pub mod Tests
pub mod Filing
