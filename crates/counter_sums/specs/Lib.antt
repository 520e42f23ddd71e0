pub mod View
pub mod Adding
