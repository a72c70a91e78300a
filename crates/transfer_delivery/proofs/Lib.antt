pub mod Steps
pub mod Holds
pub mod Transfer
pub mod Laws
