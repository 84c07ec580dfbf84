pub mod WordLemmas
pub mod TableLaws
pub mod PhraseLaws
pub mod PrintableLaws
pub mod LengthLaws
pub mod SpokenLaws
