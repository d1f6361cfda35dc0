pub mod Fits
pub mod WithRaw
pub mod Trips
-- crates that are passed on to those above, which name them through this one
pub use Rattle.page_change.specs.page_table as page_table
pub use Rattle.page_change.specs.page_write as page_write
