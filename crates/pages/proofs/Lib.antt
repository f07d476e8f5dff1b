pub mod Sets
pub mod Fields
pub mod Reading
pub mod Same
pub mod Bytes
