pub mod Follows
pub mod Good
pub mod Copies
