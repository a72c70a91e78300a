pub mod State
pub mod Settle
pub mod Step
pub mod Good
pub mod Internal
