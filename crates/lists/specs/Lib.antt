pub mod Parts
pub mod Lists
pub mod Within
pub mod Conflicts
