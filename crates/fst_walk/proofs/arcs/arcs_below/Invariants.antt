-- What the halving keeps, and what it counts down.
use Rattle.std.proofs.Common.{◌≤◌, ◌<◌, ◌-◌, ℕ, length, get_or}
use Rattle.sg_base.specs.declared.node.Edge.{Edge}
use Rattle.fst_code.specs.Views.{edges_of}
use Rattle.fst_walk.proofs.arcs.arcs_below.Given as goal

abbrev pub invariant-loop-low : goal.invariant-loop-low
invariant-loop-low l = record {
  order : l.low ≤ l.high;
  within : l.high ≤ length (edges_of l.node);
  below : (k : ℕ) (d : Edge) → k < l.low → (get_or (edges_of l.node) k d).label < l.label;
  from : (k : ℕ) (d : Edge) → l.high ≤ k → k < length (edges_of l.node)
      → l.label ≤ (get_or (edges_of l.node) k d).label;
}

abbrev pub decreases-loop-low : goal.decreases-loop-low
decreases-loop-low l = l.high - l.low
