pub mod Copied
pub mod Reported
pub mod Sized
