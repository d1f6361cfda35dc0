pub mod Stages
pub mod Scans
