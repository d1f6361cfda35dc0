pub mod Payload
pub mod Order
pub mod Joined
