pub mod Exports
pub mod Keeping
