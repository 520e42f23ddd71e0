pub mod Bending
pub mod Highest
pub mod Steadiness
pub mod Improving
pub mod Stretching
