pub mod EditionClock
pub mod Clock
pub mod Timers
pub mod Estimator
