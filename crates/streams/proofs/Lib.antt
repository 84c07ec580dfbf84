pub mod LimitLaws
pub mod ReadLaws
pub mod WriteLaws
pub mod Walks
