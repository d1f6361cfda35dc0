pub mod Ascii
pub mod Numbers
