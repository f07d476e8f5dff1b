pub mod NoPlan
pub mod Lending
pub mod Refused
