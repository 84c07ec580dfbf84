pub mod Report
pub mod Batch
