-- Counts that are bounded. No public clause cites this module.
use Rattle.std.specs.Prelude.{ℕ, nat_lt, cond}

-- the lesser of two numbers
abbrev pub at_most : ℕ → ℕ → ℕ
at_most most n = cond (nat_lt most n) most n
