pub mod Ends
pub mod Unchanged
pub mod Fields
pub mod Made
