pub mod Walks
pub mod Nights
