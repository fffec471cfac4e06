-- The first path under the spot.
use Rattle.std.proofs.Common.{◌≡◌, get_or}
use Rattle.fst_code.specs.Bytes.{nodes_of}
use Rattle.fst_walk.specs.Trails.{IsTrail}
use Rattle.fst_walk.specs.declared.spot.Spot.{Spot}
use Rattle.fst_walk.proofs.trailing.descend.Given as goal

abbrev pub invariant-loop-edge : goal.invariant-loop-edge
invariant-loop-edge g l = record {
  trail : IsTrail (nodes_of l.t) l.trail;
  first : (d : Spot) → (get_or l.trail.frames l.trail.len d).ordinal
      ≡ (get_or l.fn.trail.frames l.fn.trail.len d).ordinal;
}

abbrev pub decreases-loop-edge : goal.decreases-loop-edge
decreases-loop-edge g l = (get_or l.trail.frames l.trail.len
    (record { node = record { 0 = 0 }; cost = 0; ordinal = 0 })).node.0
