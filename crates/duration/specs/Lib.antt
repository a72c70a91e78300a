pub mod Duration
pub mod Bounds
