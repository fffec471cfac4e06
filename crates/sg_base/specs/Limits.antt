-- The numbers of the limits that several layers share. Source: this project's own.
use Rattle.std.specs.Prelude.{◌≡◌, ◌^◌, ◌-◌}
use Rattle.sg_base.specs.declared.limits.TheConstants.{MOST_WEIGHT, MOST_BOOST, MOST_KEY_BYTES}
use Rattle.sg_base.specs.declared.limits.TheConstants.{MOST_CONTEXT_BYTES}

-- each constant is the number of its limit
pub record AreLimits : Type 0 where
  pub weight : MOST_WEIGHT ≡ 2 ^ 31 - 1
  pub boost : MOST_BOOST ≡ 2 ^ 31 - 1
  pub key_bytes : MOST_KEY_BYTES ≡ 255
  pub context_bytes : MOST_CONTEXT_BYTES ≡ 63
