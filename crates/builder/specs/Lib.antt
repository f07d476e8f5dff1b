pub mod Input
pub mod Applies
pub mod Index
pub mod Filed
pub mod Build
pub mod Given
pub mod Linked
