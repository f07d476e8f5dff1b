pub mod Room
pub mod Printing
pub mod Answering
pub mod Speaking
