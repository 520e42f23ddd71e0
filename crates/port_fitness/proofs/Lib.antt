pub mod All
pub mod Entries
pub mod Sending
