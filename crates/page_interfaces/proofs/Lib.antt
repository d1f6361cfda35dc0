pub mod Foreign
pub mod Worked
