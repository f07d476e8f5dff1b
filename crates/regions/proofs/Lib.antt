pub mod Labels
pub mod Buckets
pub mod Spots
pub mod Region
