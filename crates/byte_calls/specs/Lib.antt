pub mod Layout
pub mod Stores
pub mod Codes
pub mod Host
pub mod Build
pub mod After
pub mod Numbers
pub mod Check
