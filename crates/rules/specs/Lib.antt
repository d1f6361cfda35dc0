pub mod After
pub mod Counts
pub mod History
pub mod LastTime
pub mod Record
pub mod Right
pub mod Rules
pub mod SessionPart
pub mod Times
-- crates that are passed on to those above, which name them through this one
pub use Rattle.older_build as older_build
