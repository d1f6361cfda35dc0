pub mod BothSides
pub mod HandedBack
