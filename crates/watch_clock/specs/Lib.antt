pub mod Later
pub mod Differences
pub mod Moved
pub mod Regular
