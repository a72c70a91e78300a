pub mod Calls
pub mod Demand3
pub mod KuroseRoss
pub mod Room
pub mod Ends
pub mod AnyBytes
