-- A sink in memory: what it holds. Source: this project's own.
use Rattle.std.specs.Prelude.{◌≡◌, ℕ, List}
use Rattle.sg_edge.specs.Edge.{next_count}

-- the bytes that it was given, which calls fail, and what was counted
pub record PlainMemorySink : Type 0 where
  pub given : List ℕ
  pub fails : List ℕ
  pub calls : ℕ
  pub faults : ℕ

-- one call was counted, and the next goes by the same list
pub record IsAtNextCall (old new : PlainMemorySink) : Type 0 where
  pub calls : new.calls ≡ next_count old.calls
  pub fails : new.fails ≡ old.fails
