pub mod Ends
pub mod AtStart
pub mod Ended
pub mod Finish
