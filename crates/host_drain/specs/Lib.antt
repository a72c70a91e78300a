pub mod Drain
pub mod Calls
