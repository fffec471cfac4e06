-- The least of all.
use Rattle.std.proofs.Common.{◌∙◌, sym, ap}
use Rattle.std.proofs.Math.ListN.{drop_of_length-le}
use Rattle.fst_build.proofs.LoweringLemmas.{least_of-push, least_from}
use Rattle.fst_build.proofs.nodes.least_cost.Goals as goal

pub returns : goal.returns
returns c =
    sym (ap (least_from c.loop-edge.base)
    (drop_of_length-le c.args.finished.now c.loop-edge-test.false))
    ∙ c.loop-edge.invariant
    ∙ least_of-push c.args.last c.args.finished.now
