pub mod GreatestLemmas
pub mod BoostLemmas
