-- Where the first line of some bytes ends.
use Rattle.std.proofs.Common.{◌≡◌, ℕ, ◌+◌, List, [], ◌∷◌, length, Some, None}
use Rattle.std.proofs.Common.{cond, true, false, arith}
use Rattle.std.specs.List.{position_from}
use Rattle.sg_edge.specs.LineFeeds.{is_line_feed}
use Rattle.sg_edge.specs.MemorySources.{through_line_feed}

-- with a line feed in them, it ends behind that
pub length-through_line_feed-some : (bytes : List ℕ) (n at : ℕ)
    → Some at ≡ position_from is_line_feed n bytes
    → at + 1 ≡ n + length (through_line_feed bytes)
length-through_line_feed-some [] n at found = cc
length-through_line_feed-some (byte ∷ bytes) n at found =
    elim (is_line_feed byte) as
    (λ ends. Some at ≡ cond ends (Some n) (position_from is_line_feed (n + 1) bytes)
    → at + 1 ≡ n + length (cond ends (byte ∷ []) (byte ∷ through_line_feed bytes))) [
      | true ↦ λ here. let same : at ≡ n = cc in omega arith
      | false ↦ λ later.
          omega (arith, length-through_line_feed-some bytes (n + 1) at later)
    ]
    found

-- with none in them, it ends with the last byte
pub length-through_line_feed-none : (bytes : List ℕ) (n : ℕ)
    → None ≡ position_from is_line_feed n bytes
    → length bytes ≡ length (through_line_feed bytes)
length-through_line_feed-none [] n none = Prim.grind arith
length-through_line_feed-none (byte ∷ bytes) n none =
    elim (is_line_feed byte) as
    (λ ends. None ≡ cond ends (Some n) (position_from is_line_feed (n + 1) bytes)
    → length (byte ∷ bytes) ≡ length (cond ends (byte ∷ []) (byte ∷ through_line_feed bytes))) [
      | true ↦ λ here. cc
      | false ↦ λ later. omega (arith, length-through_line_feed-none bytes (n + 1) later)
    ]
    none
