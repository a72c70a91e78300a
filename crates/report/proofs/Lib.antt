pub mod Lines
pub mod Widths
pub mod Counts
pub mod Writing
pub mod Filed
pub mod KnownValues
pub mod Laws
