-- The numbers of the limits of an index. Source: this project's own.
use Rattle.std.specs.Prelude.{◌≡◌}
use Rattle.index_core.specs.declared.limits.TheConstants.{MOST_OPERATIONS, BATCH_OPERATIONS}
use Rattle.index_core.specs.declared.limits.TheConstants.{MOST_OPEN_VIEWS}

-- each constant is the number of its limit
pub record AreLimits : Type 0 where
  pub operations : MOST_OPERATIONS ≡ 4194304
  pub batch : BATCH_OPERATIONS ≡ 16384
  pub open_views : MOST_OPEN_VIEWS ≡ 256
