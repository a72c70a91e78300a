pub mod Calls
pub mod Unchanged
pub mod Fits
pub mod ReceiveFits
pub mod Numbers
pub mod Again
