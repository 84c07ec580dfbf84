pub mod Clock
pub mod Leaves
pub mod Minima
pub mod Kept
