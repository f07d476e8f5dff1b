pub mod Labels
pub mod Buckets
