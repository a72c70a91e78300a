pub mod Rolls
pub mod Direction
pub mod Path
