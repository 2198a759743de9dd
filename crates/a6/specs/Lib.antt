pub mod Data
pub mod Ending
pub mod Read
pub mod Accepted
pub mod Write
pub mod Standard
pub mod Parts
