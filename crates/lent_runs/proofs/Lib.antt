pub mod Small
pub mod Lents
pub mod Started
