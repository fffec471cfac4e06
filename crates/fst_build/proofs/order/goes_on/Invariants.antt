-- The rest goes on exactly where the whole does.
use Rattle.std.proofs.Common.{◌↔◌, drop}
use Rattle.fst_build.specs.Sorted.{GoesOn}
use Rattle.fst_build.proofs.order.goes_on.Given as goal

abbrev pub invariant-loop-at : goal.invariant-loop-at
invariant-loop-at l = GoesOn (drop l.at l.last) (drop l.at l.path) ↔ GoesOn l.last l.path
