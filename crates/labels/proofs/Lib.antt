pub mod LabelLaws
pub mod ScanLaws
pub mod NumberLaws
