-- All labels so far are the path's.
use Rattle.std.proofs.Common.{◌≡◌, ◌+◌, drop}
use Rattle.fst_build.specs.Levels.{shared_length}
use Rattle.fst_build.proofs.branching.shared_front.Given as goal

abbrev pub invariant-loop-at : goal.invariant-loop-at
invariant-loop-at l =
    l.at + shared_length (drop l.at l.levels) (drop l.at l.path) ≡ shared_length l.levels l.path
