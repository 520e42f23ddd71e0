pub mod Reports
pub mod Verdicts
