pub mod Report
pub mod Simulation
