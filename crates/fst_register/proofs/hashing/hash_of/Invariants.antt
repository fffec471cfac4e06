-- The hash so far, carried on over the rest, is the whole.
use Rattle.std.proofs.Common.{◌≡◌, drop}
use Rattle.sg_base.specs.Hashes.{hash_from}
use Rattle.fst_register.proofs.hashing.hash_of.Given as goal

abbrev pub invariant-loop-edge : goal.invariant-loop-edge
invariant-loop-edge l = hash_from l.hash (drop l.edge-index l.edges) ≡ hash_from 0 l.edges
