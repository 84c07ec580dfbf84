pub mod Answers
pub mod Batches
pub mod Maker
pub mod Plan
pub mod Replaying
pub mod Words
