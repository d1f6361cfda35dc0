pub mod Same
pub mod Taken
