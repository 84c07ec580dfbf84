pub mod BackLaws
pub mod LineLoops
pub mod PrintLaws
pub mod SectionLaws
