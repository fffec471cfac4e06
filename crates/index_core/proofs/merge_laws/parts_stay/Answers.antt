-- The law.
use Rattle.index_core.proofs.JournalLemmas.{parts_longer}
use Rattle.index_core.proofs.merge_laws.parts_stay.Goals as goal

pub returns : goal.returns
returns c = parts_longer
