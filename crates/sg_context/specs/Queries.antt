-- Queries as plain data, and their limits. Source: Lucene's ContextQuery; the limits are this
-- project's own.
use Rattle.std.specs.Prelude.{ℕ, ◌≡◌, ◌≤◌, ◌<◌, List, length, All}
use Rattle.sg_base.specs.Counts.{saturated}
use Rattle.sg_context.specs.Boosts.{PlainQueryContext, IsBoost}
use Rattle.sg_context.specs.declared.limits.TheConstants.{MOST_QUERY_CONTEXTS, LEAST_K, MOST_K}
use Rattle.sg_context.specs.declared.query.QueryError.{QueryError}
use Rattle.sg_context.specs.declared.query.QueryError.TheVariants.{Contexts, K}

-- what the keys begin with, the contexts that are asked for, and how many rows
pub record PlainQuery : Type 0 where
  pub prefix : List ℕ
  pub contexts : List PlainQueryContext
  pub k : ℕ

-- a number of rows that may be asked for
pub record IsRowCount (k : ℕ) : Type 0 where
  pub least : LEAST_K ≤ k
  pub most : k ≤ MOST_K

-- within the limits of a query
pub record IsQuery (q : PlainQuery) : Type 0 where
  pub context_count : length q.contexts ≤ MOST_QUERY_CONTEXTS
  pub boosts : All (λ c. IsBoost c.boost) q.contexts
  pub row_count : IsRowCount q.k

-- why it is refused as a query: the first limit that it doesn't keep
abbrev pub RefusesQuery : PlainQuery → QueryError → Type 0
RefusesQuery q (Contexts count) =
    (MOST_QUERY_CONTEXTS < length q.contexts) × (count ≡ saturated (length q.contexts))
RefusesQuery q (K k) =
    (length q.contexts ≤ MOST_QUERY_CONTEXTS) × (IsRowCount q.k → ⊥) × (k ≡ q.k)
