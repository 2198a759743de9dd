pub mod ReadLaws
pub mod DataLaws
pub mod RoundTrip
pub mod Computing
pub mod Examples
