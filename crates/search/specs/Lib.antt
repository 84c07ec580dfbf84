pub mod Moves
pub mod Paths
pub mod Found
pub mod Seen
pub mod Known
pub mod Reach
pub mod Verdicts
pub mod Toy
