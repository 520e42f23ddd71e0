pub mod Sizes
pub mod Taken
