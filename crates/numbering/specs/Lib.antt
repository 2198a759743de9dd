pub mod Numbers
pub mod Graph
pub mod Buckets
pub mod Meeting
