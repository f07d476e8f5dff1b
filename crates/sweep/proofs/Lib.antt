pub mod Loops
pub mod Next
pub mod Stored
pub mod Swept
pub mod Against
