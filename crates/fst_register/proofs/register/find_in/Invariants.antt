-- The chain of the node's bucket, from its head on.
use Rattle.std.proofs.Common.{◌≡◌, ◌≤◌, ◌<◌, ◌-◌, ℕ, false, length, get_or, []}
use Rattle.sg_base.specs.Nodes.{same_edges}
use Rattle.sg_base.specs.Hashes.{bucket}
use Rattle.sg_base.specs.Chains.{bucket_in}
use Rattle.fst_register.proofs.register.find_in.Given as goal

abbrev pub decreases-loop-cell : goal.decreases-loop-cell
decreases-loop-cell l = l.cell

abbrev pub invariant-loop-cell : goal.invariant-loop-cell
invariant-loop-cell l = let n = length l.heads in record {
  within : l.cell ≤ length l.nodes;
  in_bucket : 0 < l.cell → bucket_in n l.nodes (l.cell - 1) ≡ bucket n l.node;
  passed : (j : ℕ) → l.cell ≤ j → j < length l.nodes → bucket_in n l.nodes j ≡ bucket n l.node
      → same_edges (get_or l.nodes j []) l.node ≡ false;
}
