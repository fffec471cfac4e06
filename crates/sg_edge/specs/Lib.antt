pub mod Edge
pub mod Puts
pub mod LineFeeds
pub mod MemorySources
pub mod MemorySinks
pub mod StdEnds
