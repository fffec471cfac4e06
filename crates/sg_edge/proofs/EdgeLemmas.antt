-- Bytes in front of others and behind them, as pieces join.
use Rattle.std.proofs.Common.{◌≡◌, ℕ, ◌+◌, List, ◌++◌, take, drop, Option, Some, None}
use Rattle.std.proofs.Common.{refl, sym, ap, append_assoc, arith}
use Rattle.std.proofs.lemmas.Bool.Decides.{nat_tests}
use Rattle.std.proofs.lemmas.List.{take-append-drop, drop-drop}
use Rattle.sg_edge.specs.Edge.{in_front, behind, Rose, Stayed}

-- two pieces in front
pub in_front-append : (xs ys : List ℕ) (rest : Option (List ℕ))
    → in_front (xs ++ ys) rest ≡ in_front xs (in_front ys rest)
in_front-append xs ys None = refl
in_front-append xs ys (Some bytes) = ap Some (append_assoc xs ys bytes)

-- two pieces behind
pub behind-append : (xs ys : List ℕ) (front : Option (List ℕ))
    → behind (xs ++ ys) front ≡ behind ys (behind xs front)
behind-append xs ys None = refl
behind-append xs ys (Some bytes) = ap Some (sym (append_assoc bytes xs ys))

-- what is left is the piece that was moved, and what is left behind it
pub drop-moved : (bytes piece : List ℕ) (at n : ℕ) → take n piece ≡ take n (drop at bytes)
    → drop at bytes ≡ take n piece ++ drop (at + n) bytes
drop-moved bytes piece at n moved =
    rw (moved, ← drop-drop n at bytes) (sym (take-append-drop n (drop at bytes)))

-- a count that stayed didn't rise
pub stayed-rose : (before now : ℕ) → Stayed before now → Rose before now → ⊥
stayed-rose before now stayed rose =
    grind (arith, nat_tests, stayed.same, stayed.below, rose)
