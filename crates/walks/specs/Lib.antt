pub mod Written
pub mod Walk
pub mod Lists
pub mod Answers
