pub mod Sound
pub mod Slots
pub mod Outstanding
pub mod Acknowledging
pub mod Resending
pub mod Clean
pub mod Timeouts
pub mod Laws
