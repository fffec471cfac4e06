-- The numbers of the limits and defaults of lines. Source: this project's own.
use Rattle.std.specs.Prelude.{◌≡◌}
use Rattle.wire_json.specs.declared.limits.TheConstants.{MOST_LINE_BYTES, MOST_WEIGHT_DIGITS}
use Rattle.wire_json.specs.declared.limits.TheConstants.{MOST_VIEW_NAME_BYTES}
use Rattle.wire_json.specs.declared.limits.TheConstants.{DEFAULT_WEIGHT, DEFAULT_K}

-- each constant is its number
pub record AreLimits : Type 0 where
  pub line_bytes : MOST_LINE_BYTES ≡ 65536
  pub weight_digits : MOST_WEIGHT_DIGITS ≡ 20
  pub view_name_bytes : MOST_VIEW_NAME_BYTES ≡ 255
  pub default_weight : DEFAULT_WEIGHT ≡ 1
  pub default_k : DEFAULT_K ≡ 5
