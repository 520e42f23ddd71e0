pub mod Copies
pub mod Reporting
pub mod Sizes
