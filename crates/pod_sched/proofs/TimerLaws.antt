pub mod MinimaLemmas
pub mod LeavesLemmas
pub mod KeptLemmas
pub mod ClockLemmas
