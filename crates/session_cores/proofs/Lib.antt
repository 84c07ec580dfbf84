pub mod Joined
pub mod Mapped
