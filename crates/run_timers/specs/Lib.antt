pub mod Timed
pub mod Stopped
pub mod Again
