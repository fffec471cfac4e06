-- The law.
use Rattle.index_core.proofs.SoundRecordLemmas.{current_have}
use Rattle.index_core.proofs.merge_laws.current_generations_have_all.Goals as goal

pub returns : goal.returns
returns c = current_have
