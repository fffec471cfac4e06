-- What is so of all paths of documents. Source: this project's own.
use Rattle.std.specs.Prelude.{ℕ, ◌≡◌, ◌≤◌, ◌++◌, Bool, true, ◌&&◌, ◌||◌, nat_lt, nat_eq}
use Rattle.std.specs.Prelude.{count_by, List, [], ◌∷◌, map}
use Rattle.std.specs.List.{All}
use Rattle.std.specs.List.Sorted.{IsPermutation}
use Rattle.std.specs.Cmp.Lexicographic.{slice_cmp}
use Rattle.std.specs.Ordering.{nat_cmp, is_lt}
use Rattle.sg_base.specs.declared.limits.TheConstants.{MOST_WEIGHT}
use Rattle.sg_base.specs.Contexts.{is_context}
use Rattle.sg_base.specs.Keys.{is_key}
use Rattle.sg_paths.specs.Operations.{PlainNumbered}
use Rattle.sg_paths.specs.AllPaths.{Entry, path_entries, is_alike, all_paths}

-- its context, key and weight are what contexts, keys and weights are
pub record IsLegal (e : Entry) : Type 0 where
  pub context : is_context e.context ≡ true
  pub key : is_key e.key ≡ true
  pub weight : e.weight ≤ MOST_WEIGHT

-- x is bytewise less than y, whatever stands behind x: so y doesn't begin with x
abbrev pub IsAhead : List ℕ → List ℕ → Type 0
IsAhead x y = (tail : List ℕ) → is_lt (slice_cmp nat_cmp (x ++ tail) y) ≡ true

-- each text of a list with x in front is ahead of the next
abbrev pub RisesFrom : List ℕ → List (List ℕ) → Type 0
RisesFrom x [] = Unit {0}
RisesFrom x (y ∷ ys) = IsAhead x y × RisesFrom y ys

-- each text is ahead of the next
abbrev pub Rises : List (List ℕ) → Type 0
Rises [] = Unit {0}
Rises (x ∷ xs) = RisesFrom x xs

-- whether e comes before f among those with one context and key: by a greater weight, or by the
-- same weight and a lesser document
abbrev pub comes_before : Entry → Entry → Bool
comes_before e f =
    is_alike e f && (nat_lt f.weight e.weight || (nat_eq e.weight f.weight && nat_lt e.doc f.doc))

-- the number of a path is how many entries come before it
abbrev pub NumbersCountEarlierEntries : Type 0
NumbersCountEarlierEntries = (docs : List PlainNumbered)
    → All (λ p. p.n ≡ count_by (λ e. comes_before e p.entry) (path_entries 0 docs)) (all_paths docs)

-- they are the paths of the documents, each once, whatever their order
abbrev pub AllPathsAreThoseOfDocuments : Type 0
AllPathsAreThoseOfDocuments = (docs : List PlainNumbered)
    → IsPermutation (path_entries 0 docs) (map (λ p. p.entry) (all_paths docs))
