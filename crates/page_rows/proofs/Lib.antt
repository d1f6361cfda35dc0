pub mod ChargerRows
pub mod Labels
pub mod Arms
pub mod Said
