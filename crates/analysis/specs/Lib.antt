pub mod Placed
pub mod SameSize
pub mod Relabel
pub mod First
pub mod Analyze
