pub mod Along
pub mod Clients
pub mod Shown
pub mod Plan
pub mod Replay
pub mod Texts
pub mod Words
