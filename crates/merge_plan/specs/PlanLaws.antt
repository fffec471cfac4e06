-- What every plan keeps to. Source: this project's own.
use Rattle.std.specs.Prelude.{◌≡◌, ◌≤◌, ◌<◌, ◌-◌, ◌⊎◌, false, List, [], ◌∷◌, length, sum_by}
use Rattle.std.specs.List.{AllByRecursion}
use Rattle.std.specs.Option.{IfSome}
use Rattle.sg_paths.specs.declared.limits.TheConstants.{MOST_SEGMENT_DOCUMENTS}
use Rattle.sg_paths.specs.declared.limits.TheConstants.{MOST_SEGMENT_PATHS}
use Rattle.merge_plan.specs.declared.size.Size.{Size}
use Rattle.merge_plan.specs.Merges.{planned}
use Rattle.merge_plan.specs.WorkedPlans.{WorkedPlans}

-- ten segments that fit in one
pub record AreTen (sizes : List Size) : Type 0 where
  pub ten : length sizes ≡ 10
  pub documents : sum_by (λ s. s.documents) sizes ≤ MOST_SEGMENT_DOCUMENTS
  pub paths : sum_by (λ s. s.paths) sizes ≤ MOST_SEGMENT_PATHS

-- one with more deleted documents than live ones
abbrev pub IsOneDeleted : List Size → Type 0
IsOneDeleted sizes =
    (s : Size) × (sizes ≡ s ∷ []) × (s.live < s.documents - s.live)

-- no segment that a merge holds is merged again, and those merged are ten that fit in one, or one
-- that is mostly deleted
pub record ArePlans : Type 0 where
  pub worked : WorkedPlans
  pub free : (sizes : List Size) → IfSome (planned sizes) (AllByRecursion (λ s. s.held ≡ false))
  pub kinds : (sizes : List Size)
      → IfSome (planned sizes) (λ chosen. AreTen chosen ⊎ IsOneDeleted chosen)
