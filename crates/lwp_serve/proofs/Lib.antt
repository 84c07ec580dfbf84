pub mod AnswerLaws
pub mod BatchLaws
pub mod MakerLaws
pub mod Planning
pub mod ReplayingLaws
