pub mod Parting
pub mod Settling
pub mod Saved
pub mod Begun
pub mod Lending
pub mod Beginning
pub mod Fetching
pub mod Paging
