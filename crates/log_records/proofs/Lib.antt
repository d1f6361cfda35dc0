pub mod Wholes
pub mod Entries
pub mod Records
pub mod Logs
pub mod Bads
pub mod Pieces
pub mod Cuts
pub mod Nights
