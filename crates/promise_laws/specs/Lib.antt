pub mod EachStep
pub mod Waiters
pub mod Traps
pub mod Reports
