pub mod Planned
pub mod Plan
pub mod Make
