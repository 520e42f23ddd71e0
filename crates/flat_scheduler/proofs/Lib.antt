pub mod Rings
pub mod Callers
