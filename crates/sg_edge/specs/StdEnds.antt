-- What a source over a reader and a sink over a writer count. Source: this project's own.
use Rattle.std.specs.Prelude.{ℕ, Bool}

-- how many faults the reader met, and whether it ended
pub record PlainStdSource : Type 0 where
  pub faults : ℕ
  pub ended : Bool

-- how many faults the writer met
pub record PlainStdSink : Type 0 where
  pub faults : ℕ
