pub mod LineLaws
pub mod PartLaws
pub mod SlotLaws
