pub mod StdStreams
pub mod Streams
pub mod Reading
pub mod Limited
pub mod Writing
pub mod Counting
