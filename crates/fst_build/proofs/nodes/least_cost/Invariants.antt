-- The least so far, carried on over the rest, is the whole.
use Rattle.std.proofs.Common.{◌≡◌, drop}
use Rattle.fst_build.proofs.LoweringLemmas.{least_from}
use Rattle.fst_build.proofs.nodes.least_cost.Given as goal

abbrev pub invariant-loop-edge : goal.invariant-loop-edge
invariant-loop-edge l =
    least_from l.base (drop l.edge-index l.finished) ≡ least_from l.fn.last.cost l.finished
