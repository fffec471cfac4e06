-- The law.
use Rattle.index_core.proofs.SoundRecordLemmas.{views_see}
use Rattle.index_core.proofs.merge_laws.views_see_their_prefix.Goals as goal

pub returns : goal.returns
returns c = views_see
