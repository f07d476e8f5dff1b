pub mod Loaded
pub mod Pushed
pub mod Reached
pub mod Entering
pub mod Joined
pub mod Runs
