-- The law.
use Rattle.index_core.proofs.PlannedFitLemmas.{planned_fit}
use Rattle.index_core.proofs.merge_laws.planned_merges_fit.Goals as goal

pub returns : goal.returns
returns c = planned_fit
