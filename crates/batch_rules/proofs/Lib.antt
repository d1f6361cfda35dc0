pub mod Laws
pub mod Flat
pub mod Counted
pub mod Night
