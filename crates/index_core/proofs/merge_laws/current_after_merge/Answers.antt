-- The law.
use Rattle.index_core.proofs.ReplacedLemmas.{after_merge}
use Rattle.index_core.proofs.merge_laws.current_after_merge.Goals as goal

pub returns : goal.returns
returns c = after_merge
