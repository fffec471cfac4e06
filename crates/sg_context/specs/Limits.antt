-- The numbers of a query's limits and defaults. Source: this project's own.
use Rattle.std.specs.Prelude.{◌≡◌}
use Rattle.sg_context.specs.declared.limits.TheConstants.{LEAST_BOOST, DEFAULT_BOOST, LEAST_K}
use Rattle.sg_context.specs.declared.limits.TheConstants.{MOST_QUERY_CONTEXTS, MOST_K}

-- each constant is the number of its limit or default
pub record AreLimits : Type 0 where
  pub least_boost : LEAST_BOOST ≡ 1
  pub default_boost : DEFAULT_BOOST ≡ 1
  pub query_contexts : MOST_QUERY_CONTEXTS ≡ 64
  pub least_k : LEAST_K ≡ 1
  pub most_k : MOST_K ≡ 1000
