pub mod Fed
pub mod One
-- crates that are passed on to those above, which name them through this one
pub use Rattle.lent_words as lent_words
