pub mod Held
pub mod Calls
pub mod Unchanged
pub mod Fits
