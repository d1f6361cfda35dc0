pub mod HolderLaws
pub mod Night
