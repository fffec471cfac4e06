-- One arc further.
use Rattle.std.proofs.Common.{arith}
use Rattle.fst_code.specs.Views.{edges_of}
use Rattle.fst_code.proofs.ArcLemmas.{free_found, free_passed}
use Rattle.fst_code.proofs.arc_rules.has_free_arc.Goals as goal

pub returns-then-arc-eq0 : goal.returns-then-arc-eq0
returns-then-arc-eq0 c =
    free_found c.loop-i.i (edges_of c.args.node) c.arc.result _
    (omega (arith, c.count-count.ensures, c.loop-i-test.true)) (c.arc.ensures c.arc.result)
    c.loop-i.invariant c.if-arc-eq0.true

pub loop-i-preserved : goal.loop-i-preserved
loop-i-preserved c =
    free_passed c.loop-i.i (edges_of c.args.node) c.arc.result _
    (omega (arith, c.count-count.ensures, c.loop-i-test.true)) (c.arc.ensures c.arc.result)
    c.loop-i.invariant c.if-arc-eq0.false
