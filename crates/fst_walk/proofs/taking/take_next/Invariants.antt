-- What is left stays, within the budget.
use Rattle.std.proofs.Common.{◌≡◌, ◌≤◌, ◌+◌, false}
use Rattle.fst_code.specs.Bytes.{nodes_of}
use Rattle.fst_walk.specs.Asked.{pending}
use Rattle.fst_walk.specs.Walks.{is_within, Ready, left_of, budget_of, position_of}
use Rattle.fst_walk.proofs.taking.take_next.Given as goal

abbrev pub invariant-loop-asked : goal.invariant-loop-asked
invariant-loop-asked g l = record {
  idle : is_within l.walk.stage ≡ false;
  ready : Ready (nodes_of l.t) l.query l.walk;
  left : left_of (nodes_of l.t) l.query l.fn.walk ≡ left_of (nodes_of l.t) l.query l.walk;
  ticks : l.steps + budget_of (nodes_of l.t) l.query l.walk ≤ l.fn.steps + budget_of (nodes_of l.t)
      l.query l.fn.walk;
}

abbrev pub decreases-loop-asked : goal.decreases-loop-asked
decreases-loop-asked g l = pending l.query (position_of l.walk)
