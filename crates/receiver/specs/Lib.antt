pub mod State
pub mod Reading
pub mod Reply
pub mod Receive
