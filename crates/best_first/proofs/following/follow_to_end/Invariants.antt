-- The path is followed, and each label took a step.
use Rattle.std.proofs.Common.{◌≡◌, ◌≤◌, ◌-◌, ◌+◌, ◌⊎◌, List, length}
use Rattle.path_desk.specs.Desks.{path_of}
use Rattle.best_first.specs.Followed.{FollowsPath}
use Rattle.best_first.specs.Matches.{Match}
use Rattle.best_first.specs.PathMatches.{Setting}
use Rattle.best_first.specs.Steps.{most_path_bytes}
use Rattle.best_first.proofs.following.follow_to_end.Given as goal

abbrev pub invariant-loop-entry : goal.invariant-loop-entry
invariant-loop-entry g l = record {
  follows : (s : Setting) (r : List Match)
      → FollowsPath s (g.S.SegParts.nodes l.parts) (g.S.SegParts.listed l.parts) r l.initial.desk
      l.initial.entry
      → FollowsPath s (g.S.SegParts.nodes l.parts) (g.S.SegParts.listed l.parts) r l.desk l.entry;
  some : (s : Setting) × (r : List Match)
      × FollowsPath s (g.S.SegParts.nodes l.parts) (g.S.SegParts.listed l.parts) r l.desk l.entry;
  longer : length (path_of l.initial.desk) ≤ length (path_of l.desk);
  bounded : (length (path_of l.desk) ≡ length (path_of l.initial.desk))
      ⊎ (length (path_of l.desk) ≤ most_path_bytes (g.S.SegParts.nodes l.parts));
  ticks : l.steps
      ≡ l.initial.steps + (length (path_of l.desk) - length (path_of l.initial.desk));
  reached : l.desk.reached ≡ l.initial.desk.reached;
  room : l.desk.room ≡ l.initial.desk.room;
  lists : l.desk.lists ≡ l.initial.desk.lists;
  need : l.desk.need ≡ l.initial.desk.need;
}

abbrev pub decreases-loop-entry : goal.decreases-loop-entry
decreases-loop-entry g l = most_path_bytes (g.S.SegParts.nodes l.parts) - length (path_of l.desk)
