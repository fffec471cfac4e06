-- The numbers of the limits of documents in bytes. Source: this project's own.
use Rattle.std.specs.Prelude.{◌≡◌}
use Rattle.seg_bytes.specs.declared.limits.TheConstants.{MOST_SEQ}

-- the constant is the number of its limit
abbrev pub IsLimit : Type 0
IsLimit = MOST_SEQ ≡ 4194304
