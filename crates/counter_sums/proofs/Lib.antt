pub mod Adding
pub mod Answered
