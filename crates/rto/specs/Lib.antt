pub mod Rto
pub mod History
