pub mod Sweep
pub mod Relit
