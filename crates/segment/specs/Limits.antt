-- The number of the limit of a batch. Source: this project's own.
use Rattle.std.specs.Prelude.{◌≡◌}
use Rattle.segment.specs.declared.limits.TheConstants.{MOST_BATCH_OPERATIONS}

-- the constant is the number of the limit
abbrev pub IsLimit : Type 0
IsLimit = MOST_BATCH_OPERATIONS ≡ 16384
