pub mod Metas
pub mod Calls
pub mod Answers
pub mod Keeps
pub mod Timers
pub mod Laws
