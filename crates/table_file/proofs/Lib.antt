pub mod Answers
pub mod ReadSteps
pub mod Back
