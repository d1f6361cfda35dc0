pub mod FieldLaws
pub mod Wides
pub mod Flags
