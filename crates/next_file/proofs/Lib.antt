pub mod Capping
pub mod Answering
