pub mod Each
pub mod Trips
pub mod Changing
pub mod E7
pub mod Refusing
pub mod E1
pub mod Reserved
