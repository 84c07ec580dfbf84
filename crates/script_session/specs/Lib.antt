pub mod History
pub mod Outcome
pub mod SoFar
pub mod Said
pub mod Texts
