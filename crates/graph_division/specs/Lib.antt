pub mod New
pub mod Answers
pub mod Calls
pub mod Initialize
pub mod Runs
pub mod Outcomes
pub mod NoPlan
