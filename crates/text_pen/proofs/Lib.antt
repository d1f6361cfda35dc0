pub mod Inks
pub mod Turns
pub mod Written
pub mod Laws
