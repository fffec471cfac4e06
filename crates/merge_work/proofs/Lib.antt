pub mod LiveLemmas
pub mod MergedLemmas
pub mod LimitLemmas
