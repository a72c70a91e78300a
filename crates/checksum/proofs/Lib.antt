pub mod Carry
pub mod Words
pub mod Swap
pub mod Bits
pub mod Laws
