pub mod Calls
pub mod Keeps
pub mod Deadlines
pub mod Timers
pub mod Sampling
pub mod Estimators
pub mod Rfc6298
pub mod Laws
