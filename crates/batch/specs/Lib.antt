pub mod Parts
pub mod Answers
pub mod Working
pub mod Slots
