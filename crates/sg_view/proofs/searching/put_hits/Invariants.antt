-- What is kept, continued by the hits to come, is what all hits leave.
use Rattle.std.proofs.Common.{◌≡◌, drop}
use Rattle.std.specs.Prelude.{All}
use Rattle.sg_base.specs.Ranking.{IsKept}
use Rattle.collector.specs.Hits.{rows_of}
use Rattle.sg_view.specs.Rows.{hit_key}
use Rattle.sg_view.specs.Searched.{IsHitIn, collected}
use Rattle.sg_view.proofs.searching.put_hits.Given as goal

abbrev pub invariant-loop-hit : goal.invariant-loop-hit
invariant-loop-hit l = record {
  rows :
      collected l.top.k (rows_of (hit_key l.view.segments) (drop l.hit-index l.hits))
      (rows_of (hit_key l.view.segments) l.top.hits)
      ≡ collected l.initial.top.k (rows_of (hit_key l.view.segments) l.hits)
      (rows_of (hit_key l.view.segments) l.initial.top.hits);
  known : All (IsHitIn l.view.segments) l.top.hits;
  kept : IsKept (rows_of (hit_key l.view.segments) l.top.hits);
  k : l.top.k ≡ l.initial.top.k;
  places : l.top.places ≡ l.initial.top.places;
}
