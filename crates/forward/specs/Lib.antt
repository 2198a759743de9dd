pub mod Gather
pub mod Lookup
pub mod Demand
