pub mod SessionLaws
pub mod Night
pub mod OlderNight
