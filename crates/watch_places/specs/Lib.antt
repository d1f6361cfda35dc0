pub mod Look
-- crates that are passed on to those above, which name them through this one
pub use Rattle.watch_rules as watch_rules
