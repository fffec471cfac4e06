-- Queues that suffice.
use Rattle.sg_answers.proofs.CollectorLemmas.{complete}
use Rattle.sg_answers.proofs.laws.complete_where_queues_suffice.Goals as goal

pub returns : goal.returns
returns c = complete
