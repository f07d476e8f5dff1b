pub mod Run
pub mod Rounds
pub mod Walk
pub mod Small
