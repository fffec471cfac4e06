-- The hash so far, carried on over the rest, is the whole.
use Rattle.std.proofs.Common.{◌≡◌, drop}
use Rattle.sg_base.specs.Hashes.{hash_from}
use Rattle.fst_code.specs.Views.{edges_of}
use Rattle.fst_code.proofs.repeated_nodes.hash_of.Given as goal

abbrev pub invariant-loop-at : goal.invariant-loop-at
invariant-loop-at l = hash_from l.hash (drop l.at (edges_of l.node)) ≡ hash_from 0 (edges_of l.node)
