pub mod Records
pub mod Surplus
pub mod Places
pub mod Compare
pub mod Cases
pub mod Words
pub mod Readings
