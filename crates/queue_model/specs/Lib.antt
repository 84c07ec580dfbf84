pub mod Chance
pub mod Stamps
pub mod Tallies
pub mod Threads
pub mod Desks
pub mod Actors
pub mod Notes
