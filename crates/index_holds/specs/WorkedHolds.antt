-- Worked values of counts, and what they keep to. Source: this project's own.
use Rattle.std.specs.Prelude.{◌≡◌, ◌<◌, ℕ, true, false, List, [], ◌∷◌, ◌++◌, map}
use Rattle.std.specs.List.{AllByRecursion}
use Rattle.index_holds.specs.declared.held.Held.{Held}
use Rattle.index_holds.specs.Holders.{after_release, after_retire, given_up, is_used}
use Rattle.index_holds.specs.Holders.{newly_current, with_current, with_holder}

-- a generation that is current, and one that isn't any more
abbrev current : ℕ → ℕ → Held
current g holders = record { generation = g; current = true; holders = holders }

-- one that was merged
abbrev replaced : ℕ → ℕ → Held
replaced g holders = record { generation = g; current = false; holders = holders }

-- three current generations, of which a view holds all
abbrev viewed : List Held
viewed = current 1 1 ∷ current 2 1 ∷ current 3 1 ∷ []

-- a merge holds two of them too
abbrev merging : List Held
merging = current 1 2 ∷ current 2 2 ∷ current 3 1 ∷ []

-- the merge has ended, in generation 4
abbrev merged : List Held
merged = replaced 1 1 ∷ replaced 2 1 ∷ current 3 1 ∷ current 4 0 ∷ []

-- a merge under an open view: what the view holds is freed when it ends, and not before
pub record WorkedHolds : Type 0 where
  pub in_order : with_current 2 (with_current 1 (with_current 3 []))
      ≡ current 1 0 ∷ current 2 0 ∷ current 3 0 ∷ []
  pub opens : map (with_holder (1 ∷ 2 ∷ 3 ∷ [])) (current 1 0 ∷ current 2 0 ∷ current 3 0 ∷ [])
      ≡ viewed
  pub merges : map (with_holder (1 ∷ 2 ∷ [])) viewed ≡ merging
  pub replaces : with_current 4 (after_retire (1 ∷ 2 ∷ []) merging) ≡ merged
  pub frees_nothing : given_up merging (after_retire (1 ∷ 2 ∷ []) merging) ≡ []
  pub closes : after_release (1 ∷ 2 ∷ 3 ∷ []) merged ≡ current 3 0 ∷ current 4 0 ∷ []
  pub frees : given_up merged (after_release (1 ∷ 2 ∷ 3 ∷ []) merged) ≡ 1 ∷ 2 ∷ []
  pub frees_at_once : given_up (current 1 1 ∷ current 2 1 ∷ [])
      (after_retire (1 ∷ []) (current 1 1 ∷ current 2 1 ∷ [])) ≡ 1 ∷ []
  pub drops : after_release (1 ∷ 2 ∷ []) merging ≡ viewed
  pub frees_none_dropped : given_up merging (after_release (1 ∷ 2 ∷ []) merging) ≡ []

-- what counts keep to, whatever is held: a generation that is greater than all comes last, and what
-- a view or a merge holds and gives back is as it was
pub record AreCounts : Type 0 where
  pub worked : WorkedHolds
  pub last : (g : ℕ) (entries : List Held) → AllByRecursion (λ h. h.generation < g) entries
      → with_current g entries ≡ entries ++ newly_current g ∷ []
  pub undone : (gens : List ℕ) (entries : List Held)
      → AllByRecursion (λ h. is_used h ≡ true) entries
      → after_release gens (map (with_holder gens) entries) ≡ entries
