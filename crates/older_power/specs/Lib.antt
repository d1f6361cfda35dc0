pub mod Build
pub mod Take
