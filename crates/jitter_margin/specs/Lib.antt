pub mod Answer
pub mod Fitting
