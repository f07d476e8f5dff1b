pub mod Shell
