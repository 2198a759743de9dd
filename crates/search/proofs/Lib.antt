pub mod NodeLaws
pub mod LinkLaws
pub mod BuildLaws
pub mod SearchLaws
pub mod GoingLaws
pub mod StepLaws
pub mod AnswerLaws
pub mod Examples
