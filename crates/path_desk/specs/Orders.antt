-- How the queue compares entries. No public clause cites it. Source: this project's own.
use Rattle.std.specs.Prelude.{◌≡◌, ⊤, ℕ, Bool, false, nat_eq, List, [], ◌∷◌}
use Rattle.std.specs.List.{AllByRecursion}
use Rattle.std.specs.declared.cmp.Ordering.{Ordering}
use Rattle.std.specs.Cmp.Lexicographic.{slice_cmp}
use Rattle.std.specs.Ordering.{nat_cmp, ordering_then, is_lt}
use Rattle.path_desk.specs.Entries.{Queued, key_part, rest_part, entry_cmp}

-- between equal scores: key bytes, start, the rest
abbrev pub tie_cmp : List ℕ → ℕ → List ℕ → ℕ → Ordering
tie_cmp a a_start b b_start =
    ordering_then (ordering_then
    (slice_cmp nat_cmp (key_part a) (key_part b)) (nat_cmp a_start b_start))
    (slice_cmp nat_cmp (rest_part a) (rest_part b))

-- a byte that ends the key bytes
abbrev pub ends_key : ℕ → Bool
ends_key b = nat_eq b 0

-- entries in the queue's order: none is followed by one that stands before it
abbrev pub InOrder : List Queued → Type 0
InOrder [] = ⊤
InOrder (x ∷ xs) = AllByRecursion (λ y. is_lt (entry_cmp y x) ≡ false) xs × InOrder xs
