pub mod Linkrun
pub mod Internal
