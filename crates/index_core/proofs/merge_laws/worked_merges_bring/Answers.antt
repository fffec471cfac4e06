-- The law.
use Rattle.index_core.proofs.MergeableLemmas.{worked_bring}
use Rattle.index_core.proofs.merge_laws.worked_merges_bring.Goals as goal

pub returns : goal.returns
returns c = worked_bring
