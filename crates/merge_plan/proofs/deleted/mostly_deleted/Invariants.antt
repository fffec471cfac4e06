-- None of the first is mostly deleted, so the rest tells which is.
use Rattle.std.proofs.Common.{◌≡◌, drop}
use Rattle.std.specs.Prelude.{find}
use Rattle.merge_plan.specs.Levels.{is_mostly_deleted}
use Rattle.merge_plan.proofs.deleted.mostly_deleted.Given as goal

abbrev pub invariant-loop-size : goal.invariant-loop-size
invariant-loop-size l =
    find is_mostly_deleted (drop l.size-index l.sizes) ≡ find is_mostly_deleted l.sizes
