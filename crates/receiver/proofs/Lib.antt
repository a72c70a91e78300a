pub mod States
pub mod Replies
pub mod Receiving
pub mod Laws
