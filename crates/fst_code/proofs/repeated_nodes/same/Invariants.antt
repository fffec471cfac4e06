-- The rest decides.
use Rattle.std.proofs.Common.{◌≡◌, drop}
use Rattle.sg_base.specs.Nodes.{same_edges}
use Rattle.fst_code.specs.Views.{edges_of}
use Rattle.fst_code.proofs.repeated_nodes.same.Given as goal

abbrev pub invariant-loop-at : goal.invariant-loop-at
invariant-loop-at l = same_edges (drop l.at (edges_of l.a)) (drop l.at (edges_of l.b))
    ≡ same_edges (edges_of l.a) (edges_of l.b)
