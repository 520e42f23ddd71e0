pub mod Progress
pub mod Turning
