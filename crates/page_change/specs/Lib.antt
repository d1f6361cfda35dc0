pub mod Change
pub mod Changed
pub mod Refusing
-- crates that are passed on to those above, which name them through this one
pub use Rattle.payload as payload
pub use Rattle.page_write.specs.page_table as page_table
pub use Rattle.page_write.specs.page_read as page_read
pub use Rattle.page_write as page_write
