pub mod Asked
pub mod Changes
pub mod Stored
pub mod Refusing
pub mod Worked
