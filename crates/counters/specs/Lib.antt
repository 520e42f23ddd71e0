pub mod View
pub mod Promised
