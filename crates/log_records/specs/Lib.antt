pub mod Record
pub mod Reading
pub mod Pieces
pub mod Malformed
pub mod Readings
