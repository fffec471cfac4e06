-- The law.
use Rattle.index_core.proofs.MergeableLemmas.{mergeable}
use Rattle.index_core.proofs.merge_laws.planned_merges_can_be_worked.Goals as goal

pub returns : goal.returns
returns c = mergeable
