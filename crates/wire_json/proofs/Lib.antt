pub mod MemberLemmas
pub mod SuggestedLemmas
pub mod ReadyLemmas
pub mod CommandLemmas
