pub mod Calls
pub mod Lines
pub mod Answered
pub mod Premature
pub mod Samples
pub mod Copies
pub mod EndCalls
pub mod History
