pub mod Bytes
pub mod Keys
pub mod Splits
pub mod Lists
pub mod Pairs
pub mod Channels
pub mod Ends
