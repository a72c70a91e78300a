pub mod Timeouts
pub mod Good
