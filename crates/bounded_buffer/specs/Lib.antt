pub mod Buffer
pub mod Clients
pub mod Actors
