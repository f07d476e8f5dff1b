pub mod Signed
pub mod Replies
pub mod Runs
pub mod Reading
pub mod Telling
pub mod Third
pub mod Built
