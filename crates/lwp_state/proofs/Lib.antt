pub mod AlongLaws
pub mod ClientLaws
pub mod LineLaws
pub mod PlanLaws
pub mod ReplayLaws
