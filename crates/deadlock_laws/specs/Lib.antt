pub mod Freeing
pub mod Deadlocks
pub mod Rows
