-- The law.
use Rattle.index_core.proofs.ReplacedLemmas.{one_holds}
use Rattle.index_core.proofs.merge_laws.still_one_holds.Goals as goal

pub returns : goal.returns
returns c = one_holds
