pub mod LatestLaws
pub mod LatestLooks
