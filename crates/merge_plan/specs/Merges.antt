-- The merge plan. Source: Lucene's merge policies, which merge segments of like size; levels and
-- limits are this project's own.
use Rattle.std.specs.Prelude.{ℕ, ◌+◌, ◌-◌, Bool, not, nat_eq, nat_lt, nat_le, ◌&&◌, Option, Some}
use Rattle.std.specs.Prelude.{None, option_map, List, [], ◌∷◌, length, map, filter, find, take}
use Rattle.std.specs.Prelude.{sum_by, count_by}
use Rattle.sg_paths.specs.declared.limits.TheConstants.{MOST_SEGMENT_DOCUMENTS}
use Rattle.sg_paths.specs.declared.limits.TheConstants.{MOST_SEGMENT_PATHS}
use Rattle.merge_plan.specs.declared.size.Size.{Size}

-- those that no merge holds
abbrev pub candidates : List Size → List Size
candidates sizes = filter (λ s. not s.held) sizes

-- the number of decimal digits of a number below 2^32; 0 has one
abbrev pub digits : ℕ → ℕ
digits n =
    1 + count_by (λ power. nat_le power n)
    (10 ∷ 100 ∷ 1000 ∷ 10000 ∷ 100000 ∷ 1000000 ∷ 10000000 ∷ 100000000 ∷ 1000000000 ∷ [])

-- the first ten of a level, which is the number of digits of their live documents
abbrev pub first_ten : List Size → ℕ → List Size
first_ten sizes level = take 10 (filter (λ s. nat_eq (digits s.live) level) sizes)

-- whether they are ten, and together within the limits of a segment
abbrev pub is_full : List Size → Bool
is_full sizes =
    nat_eq (length sizes) 10
    && nat_le (sum_by (λ s. s.documents) sizes) MOST_SEGMENT_DOCUMENTS
    && nat_le (sum_by (λ s. s.paths) sizes) MOST_SEGMENT_PATHS

-- the first ten of the lowest full level
abbrev pub full_level : List Size → Option (List Size)
full_level sizes =
    find is_full (map (first_ten sizes) (1 ∷ 2 ∷ 3 ∷ 4 ∷ 5 ∷ 6 ∷ 7 ∷ 8 ∷ 9 ∷ 10 ∷ []))

-- the first with more deleted documents than live ones, alone
abbrev pub mostly_deleted : List Size → Option (List Size)
mostly_deleted sizes =
    option_map (λ s. s ∷ []) (find (λ s. nat_lt s.live (s.documents - s.live)) sizes)

-- the first that there is
abbrev pub first_of : {A : Type 0} → Option A → Option A → Option A
first_of (Some one) other = Some one
first_of None other = other

-- the segments to merge, if any are
abbrev pub planned : List Size → Option (List Size)
planned sizes =
    let free = candidates sizes in
    first_of (full_level free) (mostly_deleted free)

-- their generations
abbrev pub plan : List Size → Option (List ℕ)
plan sizes = option_map (map (λ s. s.generation)) (planned sizes)
