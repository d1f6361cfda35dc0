pub mod Scan
pub mod Records
