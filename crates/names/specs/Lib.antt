pub mod Standard
pub mod Matching
pub mod Name
pub mod Answers
pub mod Keys
pub mod Merge
