pub mod Refusing
pub mod Standing
pub mod Outcomes
pub mod Chained
pub mod Theorems
