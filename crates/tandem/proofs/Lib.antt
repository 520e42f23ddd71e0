pub mod Lines
pub mod Given
pub mod Filling
pub mod Answering
