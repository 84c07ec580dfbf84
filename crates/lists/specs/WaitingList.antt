pub mod Line
pub mod Keys
pub mod Entries
pub mod Kept
