pub mod Timers
pub mod Internal
