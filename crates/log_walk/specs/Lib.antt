pub mod Walk
pub mod Walked
