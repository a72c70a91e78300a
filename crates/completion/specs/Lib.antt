pub mod Flips
pub mod Delivered
