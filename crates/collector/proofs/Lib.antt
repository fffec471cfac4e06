pub mod ListLemmas
pub mod KeptLemmas
pub mod RankingLemmas
pub mod PlaceLemmas
pub mod HitLemmas
pub mod ClosingLemmas
