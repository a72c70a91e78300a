pub mod Lines
pub mod Writing
pub mod KnownValues
pub mod Laws
