-- The tests of one pass over all sizes. No public clause cites this module.
use Rattle.std.specs.Prelude.{ℕ, ◌+◌, ◌-◌, ◌*◌, ◌≤◌, Bool, not, nat_eq, nat_lt, ◌&&◌, List}
use Rattle.std.specs.Prelude.{filter, take}
use Rattle.merge_plan.specs.declared.size.Size.{Size}
use Rattle.merge_plan.specs.Merges.{digits}

-- whether it is a candidate of the level
unfoldable pub is_of : ℕ → Size → Bool
is_of level s = not s.held && nat_eq (digits s.live) level

-- the first ten of them
abbrev pub first_of_level : ℕ → List Size → List Size
first_of_level level sizes = take 10 (filter (is_of level) sizes)

-- whether it is a candidate with more deleted documents than live ones
unfoldable pub is_mostly_deleted : Size → Bool
is_mostly_deleted s = not s.held && nat_lt s.live (s.documents - s.live)

-- a sum of 64 bits stays one when so many numbers of 32 bits are added, of ten in all
abbrev pub LeavesRoom : ℕ → ℕ → Type 0
LeavesRoom left sum = sum + left * 4294967295 ≤ 42949672950
