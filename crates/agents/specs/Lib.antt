pub mod Roster
pub mod Index
pub mod Board
pub mod Kept
