pub mod HalvesLaws
pub mod RowsLaws
pub mod KeepingLaws
pub mod LivedLaws
