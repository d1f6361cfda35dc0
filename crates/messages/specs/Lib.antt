pub mod Read
pub mod Reading
pub mod Readings
pub mod Refusing
pub mod Trips
pub mod Writable
pub mod Write
-- crates that are passed on to those above, which name them through this one
pub use Rattle.message_build as message_build
