pub mod Stored
pub mod WordLaws
