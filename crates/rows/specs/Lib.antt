pub mod Halves
pub mod Rows
pub mod Held
