pub mod Alike
pub mod Places
pub mod BothSides
