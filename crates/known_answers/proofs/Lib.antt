pub mod ProofSheet
pub mod Departures
