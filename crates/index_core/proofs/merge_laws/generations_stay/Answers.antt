-- The law.
use Rattle.index_core.proofs.MergingLemmas.{stay}
use Rattle.index_core.proofs.merge_laws.generations_stay.Goals as goal

pub returns : goal.returns
returns c = stay
