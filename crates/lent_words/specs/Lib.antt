pub mod Words
pub mod Lent
