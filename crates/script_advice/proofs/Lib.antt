pub mod TellLaws
pub mod ErrorLaws
pub mod AheadLaws
pub mod NearLaws
pub mod UnsaidLaws
