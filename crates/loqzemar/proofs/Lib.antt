pub mod Asking
pub mod Fronts
pub mod Replays
pub mod Explores
