pub mod Due
pub mod Cases
