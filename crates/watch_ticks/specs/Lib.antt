pub mod Marks
pub mod Gaps
pub mod Unticked
pub mod Silence
pub mod Answers
