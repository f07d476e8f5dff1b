pub mod Written
pub mod Walk
pub mod Lists
pub mod Same
pub mod Answers
