pub mod Core
pub mod Words
pub mod WordLaws
pub mod States
pub mod StateLaws
pub mod CoreCode
pub mod CoreLaws
pub mod Rows
