pub mod Steps
pub mod Runs
pub mod Starts
pub mod Outcomes
pub mod Calls
pub mod Laws
