pub mod FieldForms
pub mod FieldsRead
pub mod Named
