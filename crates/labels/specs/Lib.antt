pub mod Labels
pub mod Scan
pub mod Answers
pub mod Steps
pub mod Reads
