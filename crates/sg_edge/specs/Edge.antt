-- Bytes that move over the edge, and the faults that are counted there. Source: this project's own.
use Rattle.std.specs.Prelude.{◌≡◌, ◌<◌, ◌+◌, ◌-◌, ◌^◌, ◌++◌, ◌==◌, ℕ, nat_lt, List, []}
use Rattle.std.specs.Prelude.{Option, Some, None, option_map, Result, Ok, Err, Bool, false, ⊤}
use Rattle.std.specs.Prelude.{if◌then◌else◌}

-- these bytes in front of what is there, where that is told
abbrev pub in_front : List ℕ → Option (List ℕ) → Option (List ℕ)
in_front bytes = option_map (λ rest. bytes ++ rest)

-- these bytes behind what is there, where that is told
abbrev pub behind : List ℕ → Option (List ℕ) → Option (List ℕ)
behind bytes = option_map (λ front. front ++ bytes)

-- no bytes are there, where that is told
abbrev pub NothingLeft : Option (List ℕ) → Type 0
NothingLeft None = ⊤
NothingLeft (Some bytes) = bytes ≡ []

-- whether a take answered that it moved nothing
abbrev pub is_end : {E : Type 0} → Result ℕ E → Bool
is_end (Ok n) = n == 0
is_end (Err e) = false

-- a take moves 0 bytes into a piece that isn't empty only where nothing is left
abbrev pub EndCause : {E : Type 0} → Option (List ℕ) → ℕ → Result ℕ E → Type 0
EndCause left room (Ok n) = n ≡ 0 → 0 < room → NothingLeft left
EndCause left room (Err e) = ⊤

-- where a count of faults or of calls stands still
abbrev pub greatest_count : ℕ
greatest_count = 2 ^ 64 - 1

-- a count with one more in it, which stands still from the greatest on
abbrev pub next_count : ℕ → ℕ
next_count n = if nat_lt n greatest_count then n + 1 else n

-- the count has one more in it; where it stands still, it is taken as one that rose
abbrev pub Rose : ℕ → ℕ → Type 0
Rose before now = now ≡ next_count before

-- the count has no more in it, which it tells below its greatest
pub record Stayed (before now : ℕ) : Type 0 where
  pub same : now ≡ before
  pub below : before < greatest_count

-- a take fails only where it met a fault, which is counted once, and an Ok leaves the count
abbrev pub TakeCause : {T E : Type 0} → ℕ → ℕ → Result T E → Type 0
TakeCause before now (Ok value) = now ≡ before
TakeCause before now (Err error) = Rose before now
