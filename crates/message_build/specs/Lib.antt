pub mod Built
-- crates that are passed on to those above, which name them through this one
pub use Rattle.message_charger.specs.message_parts as message_parts
