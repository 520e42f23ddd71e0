pub mod Answer
pub mod Rows
