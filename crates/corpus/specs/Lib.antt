pub mod Damages
pub mod Lines
pub mod Rows
