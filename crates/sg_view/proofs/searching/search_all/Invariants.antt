-- The segments from a place on are searched.
use Rattle.std.proofs.Common.{◌≡◌, ◌≤◌, ◌+◌, drop, map, length}
use Rattle.std.specs.Prelude.{All}
use Rattle.sg_base.specs.Ranking.{IsKept}
use Rattle.collector.specs.Hits.{rows_of}
use Rattle.sg_view.specs.Rows.{hit_key}
use Rattle.sg_view.specs.Searched.{IsHitIn, HaveSearched}
use Rattle.sg_view.specs.Searching.{view_steps}
use Rattle.sg_view.specs.Viewing.{seen_segment}
use Rattle.sg_view.proofs.searching.search_all.Given as goal

abbrev pub invariant-loop-left : goal.invariant-loop-left
invariant-loop-left g l = record {
  within : l.left ≤ length l.view.segments;
  searched : HaveSearched l.query (map seen_segment (drop l.left l.view.segments)) l.top.k
      (rows_of (hit_key l.view.segments) l.top.hits) l.first;
  known : All (IsHitIn l.view.segments) l.top.hits;
  kept : IsKept (rows_of (hit_key l.view.segments) l.top.hits);
  k : l.top.k ≡ l.initial.top.k;
  places : l.top.places ≡ l.initial.top.places;
  list : l.desk.lists ≡ 1;
  need : l.desk.need ≡ l.initial.desk.need;
  ticks : l.steps
      ≤ l.initial.steps
      + view_steps l.query (map seen_segment (drop l.left l.view.segments));
}

abbrev pub decreases-loop-left : goal.decreases-loop-left
decreases-loop-left g l = l.left
