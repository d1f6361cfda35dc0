pub mod Read
pub mod Reading
pub mod Readings
pub mod Refusing
pub mod Trips
pub mod Writable
pub mod Write
