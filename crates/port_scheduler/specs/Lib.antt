pub mod View
pub mod Promised
pub mod Sending
