pub mod Walk
pub mod Relation
pub mod Answers
pub mod Demand
pub mod Choice
