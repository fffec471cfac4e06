-- One pair of arcs further.
use Rattle.std.proofs.Common.{◌∙◌, sym, arith}
use Rattle.sg_base.specs.Nodes.{same_edges}
use Rattle.fst_code.specs.Views.{edges_of}
use Rattle.sg_base.proofs.EqualNodes.{length-differs}
use Rattle.fst_code.proofs.RepeatLemmas.{same_passed, same_found}
use Rattle.fst_code.proofs.repeated_nodes.same.Goals as goal

pub returns-then-count : goal.returns-then-count
returns-then-count c =
    length-differs (edges_of c.args.a) (edges_of c.args.b)
    (λ e. c.if-count.true (c.count-count.ensures ∙ e ∙ sym c.count.ensures))

pub returns-then-not-same_arc : goal.returns-then-not-same_arc
returns-then-not-same_arc c = same_found c.loop-at.at (edges_of c.args.a) (edges_of c.args.b)
    c.arc-x.result c.arc-y.result (same_edges (edges_of c.args.a) (edges_of c.args.b))
    (omega (arith, c.count-count.ensures, c.loop-at-test.true))
    (omega (arith, c.count-count.ensures, c.count.ensures, c.if-count.false, c.loop-at-test.true))
    (c.arc-x.ensures c.arc-x.result) (c.arc-y.ensures c.arc-y.result)
    (sym c.if-not-same_arc.ensures) c.loop-at.invariant

pub loop-at-preserved : goal.loop-at-preserved
loop-at-preserved c = same_passed c.loop-at.at (edges_of c.args.a) (edges_of c.args.b)
    c.arc-x.result c.arc-y.result (same_edges (edges_of c.args.a) (edges_of c.args.b))
    (omega (arith, c.count-count.ensures, c.loop-at-test.true))
    (omega (arith, c.count-count.ensures, c.count.ensures, c.if-count.false, c.loop-at-test.true))
    (c.arc-x.ensures c.arc-x.result) (c.arc-y.ensures c.arc-y.result)
    (sym c.if-not-same_arc.ensures) c.loop-at.invariant
