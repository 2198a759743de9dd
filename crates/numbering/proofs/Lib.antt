pub mod NumberLaws
pub mod NamesLaws
pub mod GraphLaws
pub mod HeldLaws
pub mod ListingLaws
pub mod OrderLaws
pub mod NumberingLaws
pub mod Examples
