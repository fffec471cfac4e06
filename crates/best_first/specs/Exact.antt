-- When exactly a search over one context is truncated, and where. No public clause cites it.
-- Source: this project's own.
use Rattle.std.specs.Cmp.{IsTotalOrder, then_total, back_total, on_total, nat_cmp_total}
use Rattle.std.specs.Cmp.Lexicographic.{slice_cmp, on_texts}
use Rattle.std.specs.Ordering.{nat_cmp, on, flip_args, then_cmp, is_lt}
use Rattle.std.specs.Prelude.{ℕ, ◌≡◌, ◌<◌, true, List, ◌∷◌, ◌++◌, length, Option, Some, None}
use Rattle.std.specs.declared.cmp.Ordering.{Ordering}
use Rattle.sg_base.specs.ByteStrings.{begins}
use Rattle.sg_base.specs.Cuts.{PlainCut}
use Rattle.sg_base.specs.Lists.{In, Pairs}
use Rattle.sg_base.specs.Rows.{ranked}
use Rattle.best_first.specs.Matches.{Match, ranks_of}

-- score descending, then path bytes ascending
abbrev pub match_cmp : Match → Match → Ordering
match_cmp = then_cmp (flip_args (on (λ m. m.rank.score) nat_cmp))
    (on (λ m. m.bytes) (slice_cmp nat_cmp))

-- it is total
pub match_cmp_total : IsTotalOrder match_cmp
match_cmp_total = then_total (back_total (on_total (λ (m : Match). m.rank.score) nat_cmp_total))
    (on_texts (λ (m : Match). m.bytes))

-- the matching paths in that order
pub record IsInOrder (all order : List Match) : Type 0 where
  pub rising : Pairs (λ a b. is_lt (match_cmp a b) ≡ true) order
  pub from : (m : Match) → In m order → In m all
  pub has : (m : Match) → In m all → In m order

-- the next path after the first ones, which are as many as the queue holds and belong to fewer than
-- k live documents
pub record IsShort (order : List Match) (k room : ℕ) (next : Match) : Type 0 where
  pub first : List Match
  pub after : List Match
  pub is : order ≡ first ++ next ∷ after
  pub as_many : length first ≡ room
  pub few : length (ranked (ranks_of first)) < k

-- truncated exactly where there is such a path, with its score and a front of its key
abbrev pub IsExact : List Match → ℕ → ℕ → Option PlainCut → Type 0
IsExact order k room None = (next : Match) → IsShort order k room next → ⊥
IsExact order k room (Some cut) =
    (next : Match) × IsShort order k room next × (cut.score ≡ next.rank.score)
    × (begins cut.key next.rank.key ≡ true)
