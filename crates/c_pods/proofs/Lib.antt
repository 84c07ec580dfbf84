pub mod Along
pub mod Boxes
pub mod Fronts
pub mod Handles
pub mod CopiesAgain
