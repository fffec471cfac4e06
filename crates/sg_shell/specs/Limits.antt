-- The numbers of a run. Source: this project's own.
use Rattle.std.specs.Prelude.{◌≡◌, ◌^◌}
use Rattle.index_single.specs.declared.caller.TheConstants.{CALLER}
use Rattle.sg_shell.specs.declared.engine.TheConstants.{LANES}
use Rattle.sg_shell.specs.declared.reading.TheConstants.{MOST_INPUT_BYTES, PIECE_BYTES}

-- each constant is its number
pub record AreLimits : Type 0 where
  pub input_bytes : MOST_INPUT_BYTES ≡ 2 ^ 30
  pub piece_bytes : PIECE_BYTES ≡ 65536
  pub caller : CALLER ≡ 1
  pub lanes : LANES ≡ 1
