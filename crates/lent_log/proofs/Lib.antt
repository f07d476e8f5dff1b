pub mod Bounds
pub mod Words
