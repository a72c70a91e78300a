pub mod Record
pub mod State
pub mod Schedule
pub mod Structs
pub mod Waiting
pub mod Internal
