pub mod Receiving
pub mod Good
pub mod Internal
