-- What the ones so far have together, continued by those to come, is what all have.
use Rattle.std.proofs.Common.{drop}
use Rattle.merge_plan.proofs.TogetherLemmas.{Going}
use Rattle.merge_plan.proofs.levels.first_ten.Given as goal

abbrev pub invariant-loop-size : goal.invariant-loop-size
invariant-loop-size l =
    Going l.level l.sizes (drop l.size-index l.sizes) l.together.left l.together.documents
    l.together.paths
