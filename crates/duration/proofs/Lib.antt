pub mod Significand
pub mod RoundTrip
pub mod Nearest
pub mod KnownValues
pub mod Bounds
pub mod Laws
