pub mod Words
mod Found
