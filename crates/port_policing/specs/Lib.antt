pub mod Check
pub mod Full
pub mod Gate
