pub mod Refusal
pub mod Clauses
pub mod Counts
pub mod Order
