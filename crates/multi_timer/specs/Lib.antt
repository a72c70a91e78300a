pub mod Map
pub mod Internal
pub mod MultiTimer
pub mod History
