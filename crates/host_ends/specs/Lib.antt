pub mod Answers
pub mod Sender
pub mod Receiver
pub mod Making
pub mod Internal
