pub mod Batch
pub mod Cases
pub mod Runs
-- crates that are passed on to those above, which name them through this one
pub use Rattle.lent_runs.specs.lent_words as lent_words
pub use Rattle.lent_runs.specs.lent_step as lent_step
