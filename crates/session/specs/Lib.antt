pub mod Sending
pub mod GoodSender
pub mod Receiving
pub mod GoodReceiver
pub mod Ends
pub mod Internal
