-- The law.
use Rattle.index_core.proofs.MergeEventLemmas.{counts_follow}
use Rattle.index_core.proofs.merge_laws.counts_follow_events.Goals as goal

pub returns : goal.returns
returns c = counts_follow
