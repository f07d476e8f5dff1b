pub mod Reach
pub mod Checked
pub mod Runs
