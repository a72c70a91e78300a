pub mod Words
pub mod HeldBack
