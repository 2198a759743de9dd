pub mod Characters
pub mod Writing
pub mod Reading
pub mod Put
pub mod Answers
pub mod Places
