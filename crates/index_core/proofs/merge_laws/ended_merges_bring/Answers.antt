-- The law.
use Rattle.index_core.proofs.MergingLemmas.{bring}
use Rattle.index_core.proofs.merge_laws.ended_merges_bring.Goals as goal

pub returns : goal.returns
returns c = bring
