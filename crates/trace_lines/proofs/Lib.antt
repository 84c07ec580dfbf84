pub mod NumberLemmas
pub mod WordLaws
pub mod LineLaws
