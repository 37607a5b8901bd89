pub mod Rules
pub mod Table
