pub mod Rules
pub mod Selecting
pub mod Chains
