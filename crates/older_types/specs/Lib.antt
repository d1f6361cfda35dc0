pub mod KindNumbers
-- crates that are passed on to those above, which name them through this one
pub use Rattle.message_types.specs.message_laws as message_laws
pub use Rattle.message_types as message_types
