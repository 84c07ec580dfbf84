pub mod Register
pub mod Index
pub mod Lends
