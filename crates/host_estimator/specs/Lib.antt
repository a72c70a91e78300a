pub mod Words
pub mod Estimator
