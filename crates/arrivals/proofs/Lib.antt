pub mod Serving
pub mod Keeps
pub mod Laws
