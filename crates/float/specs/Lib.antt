pub mod Roll
pub mod Sign
