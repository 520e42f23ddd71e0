pub mod Shape
pub mod Bags
pub mod Ranges
pub mod Refusals
pub mod Links
pub mod Reservations
pub mod PassingRecord
pub mod Shown
