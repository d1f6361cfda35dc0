pub mod Sensor
pub mod Limits
