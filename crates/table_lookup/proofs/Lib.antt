pub mod Tables
pub mod Finding
