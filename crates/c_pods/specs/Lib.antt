pub mod Calls
pub mod Records
pub mod Effects
pub mod Follow
pub mod Handle
pub mod Held
pub mod Origins
pub mod Standing
