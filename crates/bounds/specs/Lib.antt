pub mod Limits
pub mod Answer
