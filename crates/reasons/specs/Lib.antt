pub mod Words
pub mod Verdicts
pub mod Reason
