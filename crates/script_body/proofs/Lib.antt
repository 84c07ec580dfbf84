pub mod PlaceLemmas
pub mod WalkLemmas
pub mod PostLaws
mod PlaceLaws
mod ProgramLaws
