pub mod Whole
pub mod View
pub mod Promised
pub mod Charging
pub mod Counting
pub mod Advancing
pub mod Judging
pub mod Resting
