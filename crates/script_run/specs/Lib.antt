pub mod Clients
pub mod Live
pub mod Beside
pub mod Ends
pub mod Inlets
pub mod Served
pub mod Opening
pub mod Ties
