-- ---- the first port: what it hands over
pub mod Thinned
pub mod Flow
pub mod HandedOver
-- ---- the second port: its table, and how it fares
pub mod NextRows
pub mod Onward
pub mod TwoPorts
pub mod Called
-- ---- all theorems under their names
pub mod Theorems
