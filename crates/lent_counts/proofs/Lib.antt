pub mod CountLaws
pub mod Night
pub mod Shown
