pub mod Covers
pub mod Keys
pub mod Tables
pub mod Text
pub mod Waiting
