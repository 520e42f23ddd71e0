pub mod Handed
pub mod Promises
pub mod Calls
