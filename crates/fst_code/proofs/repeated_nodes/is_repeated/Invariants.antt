-- The chain of the node's bucket, from its head on.
use Rattle.std.proofs.Common.{◌≡◌, ◌≤◌, ◌<◌, ◌-◌, ℕ, false, length, get_or, []}
use Rattle.sg_base.specs.Nodes.{same_edges}
use Rattle.fst_code.specs.Bytes.{nodes_of}
use Rattle.sg_base.specs.Chains.{bucket_in}
use Rattle.fst_code.proofs.repeated_nodes.is_repeated.Given as goal

abbrev pub decreases-loop-cell : goal.decreases-loop-cell
decreases-loop-cell l = l.cell

abbrev pub invariant-loop-cell : goal.invariant-loop-cell
invariant-loop-cell l = let ns = nodes_of l.bytes in let n = length l.heads in
    (l.cell ≤ l.id) ×
    (0 < l.cell → bucket_in n ns (l.cell - 1) ≡ l.bucket) ×
    ((j : ℕ) → l.cell ≤ j → j < l.id → bucket_in n ns j ≡ l.bucket
    → same_edges (get_or ns j []) (get_or ns l.id []) ≡ false)
