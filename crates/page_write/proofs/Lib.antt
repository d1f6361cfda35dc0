pub mod AtRow
pub mod Places
pub mod Trips
pub mod WrittenBits
pub mod Worked
pub mod Refusing
pub mod Words
pub mod Packing
