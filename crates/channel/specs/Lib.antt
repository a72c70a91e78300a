pub mod Bounds
pub mod Faults
pub mod Process
pub mod History
