pub mod Laid
pub mod Numbers
