-- The law.
use Rattle.index_core.proofs.FewLemmas.{are_few}
use Rattle.index_core.proofs.merge_laws.generations_are_few.Goals as goal

pub returns : goal.returns
returns c = are_few
