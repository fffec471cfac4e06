-- What is still to be put in leads to the same desk.
use Rattle.std.proofs.Common.{◌≡◌, ◌≤◌, ◌-◌, map, take, drop}
use Rattle.fst_code.specs.Views.{edges_of}
use Rattle.path_desk.specs.Entries.{queued}
use Rattle.path_desk.specs.Desks.{path_of}
use Rattle.best_first.specs.Steps.{child, put_all}
use Rattle.best_first.proofs.following.put_range.Given as goal

abbrev pub invariant-loop-at : goal.invariant-loop-at
invariant-loop-at l = record {
  range : l.at ≤ l.to;
  followed : l.desk.followed ≡ l.initial.desk.followed;
  reached : l.desk.reached ≡ l.initial.desk.reached;
  room : l.desk.room ≡ l.initial.desk.room;
  lists : l.desk.lists ≡ l.initial.desk.lists;
  need : l.desk.need ≡ l.initial.desk.need;
  same : put_all l.desk (map (child (queued l.entry (path_of l.initial.desk)))
      (take (l.to - l.at) (drop l.at (edges_of l.node))))
      ≡ put_all l.initial.desk (map (child (queued l.entry (path_of l.initial.desk)))
      (take (l.to - l.from) (drop l.from (edges_of l.node))));
}

abbrev pub decreases-loop-at : goal.decreases-loop-at
decreases-loop-at l = l.to - l.at
