pub mod Status
pub mod Asked
pub mod Sessions
pub mod Explored
