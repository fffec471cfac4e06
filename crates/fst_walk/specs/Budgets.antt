-- What the walk over contexts may still take. No public clause cites this module but through the
-- view of the starts that are left.
use Rattle.std.specs.Prelude.{ℕ, ◌+◌, ◌*◌, cond, Option, List, length}
use Rattle.sg_context.specs.Boosts.{PlainQueryContext}
use Rattle.sg_context.specs.Queries.{PlainQuery}
use Rattle.fst_code.specs.Tails.{Tail}
use Rattle.fst_walk.specs.Positions.{is_left, unseen}
use Rattle.fst_walk.specs.Starts.{total, matching_contexts}

-- for a context: two steps for each byte that is unseen and, where it is left, for the prefix
abbrev pub context_steps : ℕ → List ℕ → Option ℕ → List ℕ → ℕ
context_steps n at from c = 2 * unseen at from c + cond (is_left at from c) (n + 2) 0

-- for a query context that is left: two steps for each byte and its end
abbrev pub asked_steps : List ℕ → Option ℕ → PlainQueryContext → ℕ
asked_steps at from a = cond (is_left at from a.context) (2 * (length a.context + 1)) 0

-- all together, at a position
abbrev pub budget : List Tail → PlainQuery → List ℕ → Option ℕ → ℕ
budget ts q at from =
    total (context_steps (length q.prefix) at from) (matching_contexts ts q)
    + total (asked_steps at from) q.contexts
