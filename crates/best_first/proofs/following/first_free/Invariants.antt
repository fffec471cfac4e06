-- The first free arc is still to come.
use Rattle.std.proofs.Common.{◌≤◌, ◌-◌, List, length}
use Rattle.sg_base.specs.declared.node.Edge.{Edge}
use Rattle.fst_code.specs.Views.{edges_of}
use Rattle.best_first.specs.Steps.{IsFree}
use Rattle.best_first.proofs.following.first_free.Given as goal

abbrev pub invariant-loop-at : goal.invariant-loop-at
invariant-loop-at l = (l.at ≤ length (edges_of l.node))
    × ((us vs : List Edge) (a : Edge) → IsFree (edges_of l.node) us vs a → l.at ≤ length us)

abbrev pub decreases-loop-at : goal.decreases-loop-at
decreases-loop-at l = length (edges_of l.node) - l.at
