pub mod Blocked
pub mod Covering
pub mod Finding
pub mod KeyLaws
pub mod Rounds
pub mod Telling
