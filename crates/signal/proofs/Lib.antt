pub mod Masks
pub mod Laws
pub mod Totals
pub mod Complement
pub mod RawLaws
