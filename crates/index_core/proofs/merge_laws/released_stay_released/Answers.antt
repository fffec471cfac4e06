-- The law.
use Rattle.index_core.proofs.ForeverLemmas.{stay_released}
use Rattle.index_core.proofs.merge_laws.released_stay_released.Goals as goal

pub returns : goal.returns
returns c = stay_released
