pub mod Iter
pub mod Lists
pub mod Range
pub mod Bytes
pub mod Refusal
