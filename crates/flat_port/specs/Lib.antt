pub mod Lists
pub mod Promised
