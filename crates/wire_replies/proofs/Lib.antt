pub mod ReplyLemmas
pub mod LineFeedLemmas
pub mod ToldLemmas
