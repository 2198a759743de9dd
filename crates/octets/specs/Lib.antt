pub mod Octets
pub mod Cleared
pub mod Answers
pub mod Refusals
pub mod Zeros
pub mod Numbers
pub mod Each
