pub mod NodeListLemmas
pub mod RegisterLemmas
