pub mod HistoryLaws
pub mod LineLaws
pub mod PlanLaws
pub mod MakeLaws
