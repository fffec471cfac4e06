pub mod EntryLemmas
pub mod PlaceLemmas
pub mod FreedLemmas
pub mod CountLemmas
