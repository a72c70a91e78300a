pub mod Orders
pub mod Sending
pub mod Keeps
pub mod Laws
