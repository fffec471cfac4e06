-- Which of a query's contexts comes next. No public clause cites this module but through the view
-- of the starts that are left.
use Rattle.std.specs.Prelude.{ℕ, ◌≡◌, ◌≤◌, ◌⊎◌, Bool, true, false, ◌&&◌, ◌||◌, cond, bytes_eq}
use Rattle.std.specs.Prelude.{filter, Option, Some, None, List, [], ◌∷◌, length}
use Rattle.sg_base.specs.ByteStrings.{is_less}
use Rattle.sg_base.specs.Lists.{In}
use Rattle.sg_context.specs.Boosts.{PlainQueryContext, matches}
use Rattle.sg_context.specs.Queries.{PlainQuery}
use Rattle.fst_code.specs.Tails.{Tail}
use Rattle.fst_walk.specs.Positions.{is_left, no_end}
use Rattle.fst_walk.specs.Starts.{is_asked, most_steps, start_contexts, total}
use Rattle.fst_walk.specs.Budgets.{budget}

-- what begins with no byte, which is every context
abbrev pub everything : PlainQueryContext
everything = record { context = []; boost = 1; prefix = true }

-- the contexts that a query asks for: without any, for every context
abbrev pub asked_of : List PlainQueryContext → List PlainQueryContext
asked_of [] = everything ∷ []
asked_of (q ∷ qs) = q ∷ qs

-- how far the walk is: at bytes, with the least byte by which it goes on from them; None at first
abbrev pub Position : Type 0
Position = Option (List ℕ × Option ℕ)

-- whether a context is left: at first each is
abbrev pub is_left_at : Position → List ℕ → Bool
is_left_at None c = true
is_left_at (Some p) c = is_left p.0 p.1 c

-- what the walk may still take: at first the most steps of the query
abbrev pub budget_at : List Tail → PlainQuery → Position → ℕ
budget_at ts q None = most_steps ts q
budget_at ts q (Some p) = budget ts q p.0 p.1

-- the starts that are left
abbrev pub starts_at : List Tail → PlainQuery → Position → List (List ℕ)
starts_at ts q at = filter (is_left_at at) (start_contexts ts q)

-- how many of a query's contexts are left
abbrev pub pending : PlainQuery → Position → ℕ
pending q at =
    total (λ (a : PlainQueryContext). cond (is_left_at at a.context) 1 0) (asked_of q.contexts)

-- whether a query context comes before another: by its bytes, and with `prefix` first
abbrev pub comes_first : PlainQueryContext → PlainQueryContext → Bool
comes_first q b = is_less q.context b.context || (bytes_eq q.context b.context && q.prefix)

-- the one of two that comes first, where there are two
abbrev pub sooner : Option PlainQueryContext → PlainQueryContext → PlainQueryContext
sooner None q = q
sooner (Some b) q = cond (comes_first q b) q b

-- the first of those that are left, and of one that was found
abbrev pub soonest : (List ℕ → Bool) → List PlainQueryContext → Option PlainQueryContext
    → Option PlainQueryContext
soonest left [] best = best
soonest left (q ∷ qs) best = soonest left qs (cond (left q.context) (Some (sooner best q)) best)

-- a query context that is left, and matches a context
pub record Meets (asked : List PlainQueryContext) (at : Position) (c : List ℕ) : Type 0 where
  pub one : PlainQueryContext
  pub member : In one (asked_of asked)
  pub does : matches c one ≡ true
  pub left : is_left_at at one.context ≡ true

-- each context that is left, and is asked for, is so by a query context that is left
abbrev pub Closed : List PlainQueryContext → Position → Type 0
Closed asked at =
    (c : List ℕ) → is_left_at at c ≡ true → is_asked asked c ≡ true → Meets asked at c

-- the next query context
pub record IsNext (asked : List PlainQueryContext) (at : Position) (b : PlainQueryContext)
    : Type 0 where
  pub member : In b (asked_of asked)
  pub left : is_left_at at b.context ≡ true
  pub least : (a : PlainQueryContext) → In a (asked_of asked) → is_left_at at a.context ≡ true
      → (is_less b.context a.context ≡ true)
      ⊎ ((a.context ≡ b.context) × (b.prefix ≡ false → a.prefix ≡ false))

-- the same, by its bytes and its kind
pub record IsNextAt (asked : List PlainQueryContext) (at : Position) (context : List ℕ)
    (prefix : Bool) : Type 0 where
  pub one : PlainQueryContext
  pub next : IsNext asked at one
  pub is : one.context ≡ context
  pub kind : one.prefix ≡ prefix
  pub clean : no_end context ≡ true
  pub fits : length context ≤ 63
