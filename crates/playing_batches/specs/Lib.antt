pub mod Batched
pub mod Words
pub mod Slices
