pub mod Lines
pub mod Sending
pub mod Receiving
pub mod Steps
pub mod Transfer
pub mod Laws
