pub mod DeskLines
pub mod DeskSession
pub mod Plans
pub mod Stars
