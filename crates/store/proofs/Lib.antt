pub mod Write
pub mod Tests
pub mod Numbers
pub mod Scans
pub mod Laws
pub mod Clean
pub mod Ring
