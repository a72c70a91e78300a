pub mod Acks
pub mod Good
pub mod Internal
pub mod Reverse
