pub mod ConditionTable
pub mod Machine
pub mod Waits
pub mod Kept
