pub mod FollowLemmas
pub mod NumberLemmas
pub mod ReadingLemmas
pub mod RoundLemmas
pub mod OnlyLemmas
