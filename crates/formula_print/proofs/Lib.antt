pub mod Doubled
pub mod Commas
pub mod NodeRules
pub mod Appends
