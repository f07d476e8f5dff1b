pub mod Words
pub mod Compute
pub mod Cells
pub mod Members
