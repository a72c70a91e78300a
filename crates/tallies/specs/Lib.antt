pub mod Senders
pub mod Readings
pub mod Receivers
