pub mod State
pub mod Slots
pub mod Outstanding
pub mod Sending
pub mod Acknowledgement
pub mod Resending
