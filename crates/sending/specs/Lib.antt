pub mod Sending
pub mod Good
pub mod Retransmit
