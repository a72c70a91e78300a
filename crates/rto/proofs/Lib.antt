pub mod Checks
pub mod Keeps
pub mod History
pub mod Rfc6298
pub mod KnownValues
pub mod Laws
