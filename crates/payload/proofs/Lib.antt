pub mod Bytes
pub mod BigBytes
pub mod Orders
pub mod Words
pub mod Stored
pub mod WholeBytes
pub mod Written
pub mod Joins
