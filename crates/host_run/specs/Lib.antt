pub mod Setup
pub mod Outcome
pub mod Run
pub mod Layout
pub mod Made
