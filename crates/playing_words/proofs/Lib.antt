pub mod Cases
pub mod PlainLaws
