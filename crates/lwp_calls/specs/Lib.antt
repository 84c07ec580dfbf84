pub mod Asks
pub mod Comes
pub mod Deliveries
pub mod Opening
pub mod Pod
