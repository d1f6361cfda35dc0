pub mod Turns
pub mod Hexed
pub mod Laws
pub mod Worked
