pub mod Digits
pub mod Lengths
pub mod Laid
pub mod Worked
