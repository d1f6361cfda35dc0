pub mod KindNumbers
pub mod Labels
-- crates that are passed on to those above, which name them through this one
pub use Rattle.message_laws as message_laws
