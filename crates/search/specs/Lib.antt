pub mod Search
pub mod Links
pub mod Memory
pub mod Answers
