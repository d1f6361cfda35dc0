pub mod Fed
pub mod Call
pub mod Answers
pub mod Night
pub mod Pieces
pub mod Readings
