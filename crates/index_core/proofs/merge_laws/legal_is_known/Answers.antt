-- The law.
use Rattle.index_core.proofs.KnownLemmas.{legal_is_known as known}
use Rattle.index_core.proofs.merge_laws.legal_is_known.Goals as goal

pub returns : goal.returns
returns c = known
