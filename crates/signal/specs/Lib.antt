pub mod Signal
pub mod Twos
pub mod Raw
