-- Between two paths.
use Rattle.std.proofs.Common.{◌≡◌, ◌≤◌, ◌-◌, ◌+◌, ◌*◌, List}
use Rattle.std.specs.Prelude.{All}
use Rattle.sg_base.specs.Ranking.{IsKept}
use Rattle.collector.specs.Hits.{rows_of}
use Rattle.best_first.specs.Followed.{BetweenPaths}
use Rattle.best_first.specs.Hits.{IsHitOf}
use Rattle.best_first.specs.Matches.{Match}
use Rattle.best_first.specs.Steps.{most_path_bytes}
use Rattle.best_first.proofs.reaching.reach_all.Given as goal

abbrev pub invariant-loop-desk : goal.invariant-loop-desk
invariant-loop-desk g l = record {
  between : (r : List Match) × BetweenPaths l.query (g.S.SegParts.nodes l.parts)
      (g.S.SegParts.listed l.parts) l.live r l.top.k l.desk
      (rows_of (g.S.Keys.key_of l.parts) l.top.hits);
  hits : All (IsHitOf (g.S.SegParts.listed l.parts) l.piece) l.top.hits;
  kept : IsKept (rows_of (g.S.Keys.key_of l.parts) l.top.hits);
  k : l.top.k ≡ l.initial.top.k;
  places : l.top.places ≡ l.initial.top.places;
  room : l.desk.room ≡ l.initial.desk.room;
  lists : l.desk.lists ≡ l.initial.desk.lists;
  need : l.desk.need ≡ l.initial.desk.need;
  ticks : l.steps
      ≤ l.initial.steps + l.desk.reached * (most_path_bytes (g.S.SegParts.nodes l.parts) + 1);
}

abbrev pub decreases-loop-desk : goal.decreases-loop-desk
decreases-loop-desk g l = l.initial.desk.room - l.desk.reached
