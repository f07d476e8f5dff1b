pub mod Passed
pub mod Count
pub mod Once
pub mod Proper
pub mod Passes
pub mod Abstract
pub mod Unmarked
pub mod Reading
