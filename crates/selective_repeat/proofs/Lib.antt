pub mod Due
pub mod Advance
pub mod Acknowledging
pub mod States
pub mod Deciding
pub mod Carrying
pub mod Receiving
pub mod Laws
