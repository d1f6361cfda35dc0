pub mod Made
pub mod Filled
pub mod Joined
pub mod Judged
pub mod Turns
