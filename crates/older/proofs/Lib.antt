pub mod Alike
pub mod Each
pub mod Trips
pub mod Changing
pub mod Refusing
pub mod Worked
