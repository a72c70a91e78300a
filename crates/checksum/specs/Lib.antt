pub mod Integers
pub mod Rfc1071
pub mod Techniques
