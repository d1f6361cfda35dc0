pub mod Words
pub mod Fields
