-- The end of what was walked stays.
use Rattle.std.proofs.Common.{◌≡◌, get_or}
use Rattle.fst_code.specs.Bytes.{nodes_of}
use Rattle.fst_walk.specs.Trails.{IsTrail, ending}
use Rattle.fst_walk.specs.declared.spot.Spot.{Spot}
use Rattle.fst_walk.proofs.trailing.climb.Given as goal

abbrev pub invariant-loop-trail : goal.invariant-loop-trail
invariant-loop-trail g l = record {
  trail : IsTrail (nodes_of l.t) l.trail;
  bytes : l.trail.bytes ≡ l.fn.trail.bytes;
  ends : (d : Spot) → ending (nodes_of l.t) (get_or l.trail.frames l.trail.len d)
      ≡ ending (nodes_of l.t) (get_or l.fn.trail.frames l.fn.trail.len d);
}

abbrev pub decreases-loop-trail : goal.decreases-loop-trail
decreases-loop-trail g l = l.trail.len
