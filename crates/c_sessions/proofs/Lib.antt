pub mod FrontLaws
pub mod PlanLaws
pub mod AnswerLaws
pub mod ReplayLaws
