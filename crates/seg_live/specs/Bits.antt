-- Live docs in words of 64 bits. No public clause cites this module.
use Rattle.std.specs.Prelude.{ℕ, zero, suc, ◌+◌, ◌/◌, ◌%◌, Bool, true, ◌==◌, get_or, List, [], ◌∷◌}
use Rattle.std.specs.Prelude.{Option, Some, None, replicate}
use Rattle.std.specs.Int.{bit_at}

-- whether the bit of a place is set
abbrev pub is_set : List ℕ → ℕ → Bool
is_set words i = bit_at (get_or words (i / 64) 0) (i % 64) == 1

-- the bits of k places from n on
abbrev pub bits_from : List ℕ → ℕ → ℕ → List Bool
bits_from words n zero = []
bits_from words n (suc k) = is_set words n ∷ bits_from words (n + 1) k

-- the live docs of k documents: these bits, or all live where there are none
abbrev pub bits_or_all : ℕ → Option (List Bool) → List Bool
bits_or_all k None = replicate k true
bits_or_all k (Some bits) = bits
