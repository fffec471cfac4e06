-- The halving.
use Rattle.std.proofs.Common.{◌≤◌, ◌<◌}
use Rattle.std.proofs.Common.{subst, arith}
use Rattle.sg_base.specs.declared.node.Edge.{Edge}
use Rattle.fst_code.specs.Views.{edges_of}
use Rattle.fst_walk.proofs.ArcLemmas.{upto, onwards}
use Rattle.fst_walk.proofs.arcs.arcs_below.Goals as goal

pub loop-low-preserved-then-edge-label : goal.loop-low-preserved-then-edge-label
loop-low-preserved-then-edge-label c = record {
  order = omega arith;
  within = c.loop-low.invariant.within;
  below = λ k d h. upto (edges_of c.args.node) c.requires _ c.args.label k d (omega arith)
      (subst (λ (e : Edge). e.label < c.args.label) (c.edge.ensures d) c.if-edge-label.true) h;
  from = c.loop-low.invariant.from;
}

pub loop-low-preserved : goal.loop-low-preserved
loop-low-preserved c = record {
  order = omega arith;
  within = omega arith;
  below = c.loop-low.invariant.below;
  from = λ k d h l. onwards (edges_of c.args.node) c.requires _ c.args.label k d
      (subst (λ (e : Edge). c.args.label ≤ e.label) (c.edge.ensures d) c.if-edge-label.false) h l;
}
