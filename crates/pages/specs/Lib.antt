pub mod Sets
pub mod Line
pub mod Lines
pub mod Reading
