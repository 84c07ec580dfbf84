pub mod Input
pub mod Texts
pub mod Replay
pub mod Found
