pub mod Fold
pub mod Rule
pub mod Collapse
pub mod Demand3
pub mod Running
