pub mod LogWords
