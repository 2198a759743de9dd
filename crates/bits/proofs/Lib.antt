pub mod BitLaws
pub mod PackingLaws
pub mod PackLaws
pub mod UnpackLaws
