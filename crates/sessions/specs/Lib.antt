pub mod Follow
pub mod Stars
