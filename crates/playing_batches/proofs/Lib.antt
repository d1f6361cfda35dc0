pub mod Fours
pub mod Singly
pub mod Turns
pub mod Judged
pub mod Slices
pub mod Worked
