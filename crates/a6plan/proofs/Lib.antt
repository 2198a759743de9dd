pub mod ExportLaws
pub mod FifthLaws
