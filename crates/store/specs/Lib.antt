pub mod Slot
pub mod Clean
pub mod Sound
pub mod Numbers
pub mod Scans
