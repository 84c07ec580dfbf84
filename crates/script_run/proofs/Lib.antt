pub mod LeftLaws
mod ClientLaws
pub mod BesideLaws
pub mod LiveLaws
pub mod Sound
pub mod Ties
pub mod Served
pub mod Back
pub mod Seats
pub mod Draining
