pub mod Host
pub mod Room
pub mod Drains
