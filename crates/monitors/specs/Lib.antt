pub mod MonitorTable
pub mod Kept
pub mod Slots
pub mod Held
pub mod Machine
pub mod Requests
