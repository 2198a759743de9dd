pub mod Words
pub mod Writing
pub mod Reading
pub mod Answers
pub mod Walk
pub mod Walked
pub mod Longest
pub mod FieldText
