-- The lists of hits that a desk keeps. No public clause cites it. Source: this project's own.
use Rattle.std.specs.Prelude.{ℕ, ◌+◌, ◌&&◌, nat_le, nat_lt, if◌then◌else◌}
use Rattle.std.specs.Prelude.{Option, Some, None}

-- how many lists there are, and the places that each has at least
pub record PlainLists : Type 0 where
  pub places : ℕ
  pub count : ℕ

-- it is made of these
abbrev pub lists_of : ℕ → ℕ → PlainLists
lists_of places count = record { places = places; count = count }

-- one where there is a value
abbrev pub held : {X : Type 0} → Option X → ℕ
held None = 0
held (Some x) = 1

-- a list is kept where there are fewer than two and it has the places
abbrev pub kept_count : ℕ → ℕ → ℕ → ℕ
kept_count count least places =
    if nat_lt count 2 && nat_le least places then count + 1 else count
