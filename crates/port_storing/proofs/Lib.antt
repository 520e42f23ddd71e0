pub mod Room
pub mod Marked
pub mod Settling
