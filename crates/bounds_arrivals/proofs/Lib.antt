pub mod Sums
pub mod Fitting
pub mod Loading
pub mod Views
