-- The starts that were given are put in.
use Rattle.std.proofs.Common.{◌≡◌, ◌≤◌, ◌+◌, List, length}
use Rattle.fst_code.specs.Lists.{root_paths}
use Rattle.fst_walk.specs.Starts.{most_steps}
use Rattle.path_desk.specs.declared.entry.Entry.{Entry as PlainEntry}
use Rattle.best_first.specs.Followed.{starts_of}
use Rattle.best_first.specs.Roots.{Loading}
use Rattle.best_first.specs.Segments.{started}
use Rattle.best_first.specs.Steps.{put_all}
use Rattle.best_first.proofs.loading.load_starts.Given as goal

abbrev pub invariant-loop-start : goal.invariant-loop-start
invariant-loop-start g l = record {
  loaded : (roots : List PlainEntry) × Loading l.query (g.S.SegParts.nodes l.parts)
      (starts_of (g.S.SegParts.nodes l.parts) l.query) l.starts roots
      × (l.desk ≡ put_all l.initial.desk (started l.query.prefix roots))
      × (l.count ≡ length roots);
  ticks : l.steps + l.starts.budget
      ≤ l.initial.steps + most_steps (root_paths (g.S.SegParts.nodes l.parts)) l.query;
  lists : l.desk.lists ≡ l.initial.desk.lists;
  need : l.desk.need ≡ l.initial.desk.need;
}

abbrev pub decreases-loop-start : goal.decreases-loop-start
decreases-loop-start g l = length l.starts.contexts
