pub mod ChainLists
pub mod ChainLinks
pub mod EventMarks
pub mod Texts
pub mod Living
pub mod ThreadIndex
pub mod WaitingList
