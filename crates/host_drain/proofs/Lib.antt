pub mod Calls
pub mod Unchanged
pub mod Follow
pub mod EveryList
pub mod Delivered
pub mod Room
pub mod Examples
