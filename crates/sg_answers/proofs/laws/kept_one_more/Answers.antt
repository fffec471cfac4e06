-- The first k with one row more.
use Rattle.sg_answers.proofs.CollectorLemmas.{one_more_kept}
use Rattle.sg_answers.proofs.laws.kept_one_more.Goals as goal

pub returns : goal.returns
returns c = one_more_kept
