pub mod Words
pub mod Table
pub mod Phrase
pub mod Line
pub mod Reading
pub mod Laws
