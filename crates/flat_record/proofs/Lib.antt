pub mod Filled
pub mod Reading
pub mod Rows
