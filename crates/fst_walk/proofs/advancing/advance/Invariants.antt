-- The walk stands in the group, at what is left, within its budget.
use Rattle.std.proofs.Common.{◌≡◌, ◌≤◌, ◌+◌, ◌-◌, Some, take}
use Rattle.fst_code.specs.Lists.{root_paths}
use Rattle.fst_code.specs.Views.{edges_of}
use Rattle.fst_code.specs.Bytes.{nodes_of}
use Rattle.fst_walk.specs.Starts.{left_starts}
use Rattle.fst_walk.specs.Budgets.{budget}
use Rattle.fst_walk.specs.Walks.{InGroup, ShowsTop, bytes_of}
use Rattle.fst_walk.proofs.advancing.advance.Given as goal

abbrev pub invariant-loop-child : goal.invariant-loop-child
invariant-loop-child g l = record {
  group : InGroup (nodes_of l.t) l.query l.walk;
  view : ShowsTop (nodes_of l.t) l.walk (edges_of l.view);
  base : l.walk.base ≡ l.fn.walk.base;
  bytes : take l.walk.base l.walk.at ≡ take l.fn.walk.base l.fn.walk.at;
  starts : left_starts (root_paths (nodes_of l.t)) l.query (bytes_of l.fn.walk) (Some 0)
      ≡ left_starts (root_paths (nodes_of l.t)) l.query (bytes_of l.walk) (Some l.from);
  ticks : l.steps + budget (root_paths (nodes_of l.t)) l.query (bytes_of l.walk)
      (Some l.from) + (l.walk.len - l.walk.base)
      ≤ l.fn.steps + budget (root_paths (nodes_of l.t)) l.query (bytes_of l.fn.walk)
      (Some 0) + (l.fn.walk.len - l.fn.walk.base + 1);
}

abbrev pub decreases-loop-child : goal.decreases-loop-child
decreases-loop-child g l = budget (root_paths (nodes_of l.t)) l.query (bytes_of l.walk)
    (Some l.from) + (l.walk.len - l.walk.base)
