pub mod View
pub mod Fitness
