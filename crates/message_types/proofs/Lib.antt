pub mod Choices
pub mod Marks
pub mod Padding
