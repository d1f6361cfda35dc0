pub mod Numbers
pub mod Worked
pub mod Groups
