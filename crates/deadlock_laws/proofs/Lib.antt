pub mod Frames
pub mod Posting
pub mod Staying
pub mod Cycles
pub mod Loosening
pub mod Lasting
pub mod Deliveries
pub mod Breaches
