-- The generations so far rise to the last.
use Rattle.std.proofs.Common.{◌≤◌}
use Rattle.index_tests.proofs.RisingLemmas.{RiseTo}
use Rattle.index_tests.proofs.plans.sizes_of.Given as goal

abbrev pub invariant-loop-word : goal.invariant-loop-word
invariant-loop-word l = RiseTo l.last l.sizes.items × (l.last ≤ 100)
