-- crates that are passed on to those above, which name them through this one
pub use Rattle.page_rows.specs.page_table as page_table
