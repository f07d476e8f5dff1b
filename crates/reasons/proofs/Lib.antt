pub mod Marks
pub mod Back
pub mod Stored
