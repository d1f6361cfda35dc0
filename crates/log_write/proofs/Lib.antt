pub mod Groups
pub mod Ends
pub mod Stores
pub mod Writings
pub mod Worked
