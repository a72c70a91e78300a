pub mod Marks
pub mod Updates
pub mod Times
pub mod Scheduled
pub mod Laws
