-- None from here on stands before the hit.
use Rattle.std.proofs.Common.{◌≡◌, ℕ, ◌≤◌, ◌<◌, false, length, map}
use Rattle.std.specs.Prelude.{slice_index_or}
use Rattle.std.specs.Ordering.{is_lt}
use Rattle.sg_base.specs.Ranking.{rank_cmp}
use Rattle.sg_base.specs.declared.rank.Rank.{Rank}
use Rattle.collector.specs.Hits.{row_of}
use Rattle.collector.proofs.places.place_of.Given as goal

abbrev pub invariant-loop-at : goal.invariant-loop-at
invariant-loop-at g l = (l.at ≤ length l.hits)
    × ((k : ℕ) (d : Rank) → l.at ≤ k → k < length (map (row_of (g.K.Keys.key_of l.keys)) l.hits)
    → is_lt (rank_cmp (slice_index_or (map (row_of (g.K.Keys.key_of l.keys)) l.hits) k d)
    (row_of (g.K.Keys.key_of l.keys) l.hit)) ≡ false)

abbrev pub decreases-loop-at : goal.decreases-loop-at
decreases-loop-at g l = l.at
