pub mod Start
pub mod Represents
