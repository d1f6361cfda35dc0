pub mod Raws
pub mod Refusing
pub mod Steps
pub mod Taken
pub mod Trips
pub mod Written
-- crates that are passed on to those above, which name them through this one
pub use Rattle.page_read.specs.page_table as page_table
pub use Rattle.page_read as page_read
