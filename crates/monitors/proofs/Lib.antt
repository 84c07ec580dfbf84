pub mod KeptLemmas
pub mod LiveLaws
pub mod SlotLaws
pub mod LinkLaws
pub mod Room
pub mod Machine
pub mod Lines
