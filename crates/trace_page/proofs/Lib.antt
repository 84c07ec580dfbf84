mod EachLaws
mod WaitLaws
mod ViewLaws
pub mod PageLaws
pub mod TitleLaws
pub mod Readings
pub mod NestingLaws
