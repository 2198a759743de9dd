pub mod Rewrite
pub mod Spots
pub mod Splice
