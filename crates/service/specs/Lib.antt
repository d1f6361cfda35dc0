pub mod Probes
pub mod Nearness
pub mod Duty
pub mod Readings
