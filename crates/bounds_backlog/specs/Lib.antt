pub mod Peaks
pub mod Stretches
