-- Held generations, and what holds each. Source: after Lucene's IndexFileDeleter, which counts
-- references to files; spare places are this project's own.
use Rattle.std.specs.Prelude.{◌<◌, ◌^◌, ◌+◌, ◌-◌, ◌||◌, ℕ, Bool, true, false, not, nat_eq, nat_lt}
use Rattle.std.specs.Prelude.{IsTrue, if◌then◌else◌, Option, List, [], ◌∷◌, map, filter, find}
use Rattle.std.specs.List.{list_any}
use Rattle.std.specs.Option.{IsSomeAnd}
use Rattle.index_holds.specs.declared.held.Held.{Held}

-- the held generations, rising, and how many places are spare
pub record PlainHolds : Type 0 where
  pub entries : List Held
  pub spare : ℕ

-- whether a generation is held
abbrev pub is_held : List Held → ℕ → Bool
is_held entries g = list_any (λ h. nat_eq h.generation g) entries

-- a generation with what holds it, if anything does
abbrev pub entry_of : List Held → ℕ → Option Held
entry_of entries g = find (λ h. nat_eq h.generation g) entries

-- whether anything holds the generation of an entry
abbrev pub is_used : Held → Bool
is_used h = h.current || nat_lt 0 h.holders

-- a current generation that no view and no merge holds
abbrev pub newly_current : ℕ → Held
newly_current g = record { generation = g; current = true; holders = 0 }

-- a generation more, which is current: it stands before the greater ones
abbrev pub with_current : ℕ → List Held → List Held
with_current g [] = newly_current g ∷ []
with_current g (h ∷ hs) =
    if nat_lt h.generation g then h ∷ with_current g hs else newly_current g ∷ (h ∷ hs)

-- whether a number is in the list
abbrev pub is_among : ℕ → List ℕ → Bool
is_among n numbers = list_any (nat_eq n) numbers

-- one holder more, if it is one of these generations
abbrev pub with_holder : List ℕ → Held → Held
with_holder gens h =
    if is_among h.generation gens then record h { holders = h.holders + 1 } else h

-- one holder fewer, if it is one of these generations
abbrev pub without_holder : List ℕ → Held → Held
without_holder gens h =
    if is_among h.generation gens then record h { holders = h.holders - 1 } else h

-- one holder fewer and not current any more, if it is one of these generations
abbrev pub without_current : List ℕ → Held → Held
without_current gens h =
    if is_among h.generation gens
    then record h { current = false; holders = h.holders - 1 } else h

-- what is held once a view or a merge gives its generations back
abbrev pub after_release : List ℕ → List Held → List Held
after_release gens entries = filter is_used (map (without_holder gens) entries)

-- what is held once a merge gives its generations back and has replaced them
abbrev pub after_retire : List ℕ → List Held → List Held
after_retire gens entries = filter is_used (map (without_current gens) entries)

-- the generations that were held and aren't any more, rising
abbrev pub given_up : List Held → List Held → List ℕ
given_up old new = filter (λ g. not (is_held new g)) (map (λ h. h.generation) old)

-- the generation is held, and one more may hold it
abbrev pub HasRoom : List Held → ℕ → Type 0
HasRoom entries g = IsSomeAnd (entry_of entries g) (λ h. h.holders < 2 ^ 32 - 1)

-- a view or a merge holds the generation
abbrev pub HasHolder : List Held → ℕ → Type 0
HasHolder entries g = IsSomeAnd (entry_of entries g) (λ h. 0 < h.holders)

-- the generation is current, and a view or a merge holds it
abbrev pub IsCurrentAndHeld : List Held → ℕ → Type 0
IsCurrentAndHeld entries g =
    IsSomeAnd (entry_of entries g) (λ h. IsTrue h.current × (0 < h.holders))
