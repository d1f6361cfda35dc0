pub mod Voices
pub mod Words
