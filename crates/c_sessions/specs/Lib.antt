pub mod Fronts
pub mod Records
pub mod Planned
pub mod Answered
pub mod Replayed
pub mod Advised
pub mod Explored
