-- crates that are passed on to those above, which name them through this one
pub use Rattle.lent_step as lent_step
