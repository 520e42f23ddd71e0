pub mod Bucket
pub mod Full
