pub mod Words
pub mod Plan
pub mod Check
pub mod Proper
