pub mod Climbing
pub mod Limiting
pub mod Answering
pub mod Answered
pub mod Sufficing
