pub mod Whole
pub mod Conditions
pub mod Runs
pub mod Crossed
pub mod Pages
pub mod Standing
