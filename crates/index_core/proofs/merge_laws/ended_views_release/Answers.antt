-- The law.
use Rattle.index_core.proofs.ReleasingLemmas.{ended_releases}
use Rattle.index_core.proofs.merge_laws.ended_views_release.Goals as goal

pub returns : goal.returns
returns c = ended_releases
