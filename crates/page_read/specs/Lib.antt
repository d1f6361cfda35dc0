pub mod Judge
pub mod Judged
pub mod Refusing
pub mod Steps
-- crates that are passed on to those above, which name them through this one
pub use Rattle.payload as payload
pub use Rattle.page_search.specs.page_table as page_table
