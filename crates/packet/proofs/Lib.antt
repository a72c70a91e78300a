pub mod Types
pub mod Header
pub mod Read
pub mod RoundTrip
pub mod Datagrams
pub mod ReceiverCheck
pub mod FlippedBit
pub mod Laws
