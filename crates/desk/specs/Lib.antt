pub mod Print
pub mod Obey
pub mod Start
pub mod Session
