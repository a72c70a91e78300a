pub mod Octets
pub mod Flip
pub mod Fold
