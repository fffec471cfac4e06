-- One arc further.
use Rattle.std.proofs.Common.{arith}
use Rattle.fst_code.specs.Views.{edges_of}
use Rattle.fst_code.proofs.ArcLemmas.{targets_found, targets_passed}
use Rattle.fst_code.proofs.arc_rules.forward_target_in.Goals as goal

pub returns-then-arc-id : goal.returns-then-arc-id
returns-then-arc-id c =
    targets_found c.args.id c.args.at c.loop-i.i (edges_of c.args.node) c.arc.result _
    (omega (arith, c.count-count.ensures, c.loop-i-test.true)) (c.arc.ensures c.arc.result)
    c.loop-i.invariant c.if-arc-id.true

pub loop-i-preserved : goal.loop-i-preserved
loop-i-preserved c =
    targets_passed c.args.id c.args.at c.loop-i.i (edges_of c.args.node) c.arc.result _
    (omega (arith, c.count-count.ensures, c.loop-i-test.true)) (c.arc.ensures c.arc.result)
    c.loop-i.invariant c.if-arc-id.false
