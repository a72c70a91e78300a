pub mod Limits
pub mod Carrying
pub mod Tallies
pub mod Counters
pub mod NoFaults
pub mod Laws
pub mod Examples
