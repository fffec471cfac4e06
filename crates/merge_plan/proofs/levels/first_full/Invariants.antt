-- None of the first levels is full, so the rest tells which is.
use Rattle.std.proofs.Common.{◌≡◌, drop}
use Rattle.std.specs.Prelude.{find}
use Rattle.merge_plan.specs.Levels.{first_of_level}
use Rattle.merge_plan.specs.Merges.{is_full}
use Rattle.merge_plan.proofs.levels.first_full.Given as goal

abbrev pub invariant-loop-level : goal.invariant-loop-level
invariant-loop-level l =
    find (λ level. is_full (first_of_level level l.sizes)) (drop l.level-index l.levels)
    ≡ find (λ level. is_full (first_of_level level l.sizes)) l.levels
