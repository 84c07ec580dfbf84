pub mod Numbers
pub mod NumberLaws
pub mod Spelling
pub mod SpellingLaws
