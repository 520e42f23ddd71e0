pub mod Putting
pub mod Halving
pub mod Answering
