pub mod Draws
pub mod Made
pub mod Order
pub mod Summary
pub mod Laws
