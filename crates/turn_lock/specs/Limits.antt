-- The number of the lock's limit. Source: this project's own.
use Rattle.std.specs.Prelude.{◌≡◌}
use Rattle.turn_lock.specs.declared.limits.TheConstants.{MOST_SEATS}

-- the constant is the number of its limit
pub record AreLimits : Type 0 where
  pub seats : MOST_SEATS ≡ 17
