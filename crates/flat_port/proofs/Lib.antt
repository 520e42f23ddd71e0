pub mod Judged
pub mod Verdicts
pub mod Standing
pub mod Reporting
