pub mod Answer
pub mod Pages
pub mod Readings
pub mod Run
pub mod Setting
pub mod Steps
pub mod Table
-- crates that are passed on to those above, which name them through this one
pub use Rattle.rules as rules
