pub mod NumberBytes
pub mod Refusing
