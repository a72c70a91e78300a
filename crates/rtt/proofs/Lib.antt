pub mod Near
pub mod FirstSample
pub mod Range
pub mod Section2
