pub mod RangeLemmas
pub mod CoverLemmas
pub mod RisingLemmas
pub mod PlaceLemmas
pub mod JournalLemmas
