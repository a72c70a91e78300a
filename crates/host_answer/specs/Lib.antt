pub mod Answer
pub mod Exit
