pub mod Watched
pub mod Parts
