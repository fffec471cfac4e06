-- Behind the end of one of them nothing is common.
use Rattle.std.proofs.Common.{◌≡◌, ◌≤◌, ◌+◌, ℕ, min, zero, suc, List, [], ◌∷◌, length, drop}
use Rattle.std.proofs.Common.{refl, arith}
use Rattle.fst_code.specs.Rules.{common}
use Rattle.segment.proofs.header.common_front.Goals as goal

none_common : (xs : List ℕ) → common xs [] ≡ 0
none_common [] = refl
none_common (x ∷ xs) = refl

none_left : (xs ys : List ℕ) (i : ℕ) → min (length xs) (length ys) ≤ i
    → common (drop i xs) (drop i ys) ≡ 0
none_left [] ys zero h = refl
none_left [] ys (suc i) h = refl
none_left (x ∷ xs) [] zero h = refl
none_left (x ∷ xs) [] (suc i) h = none_common (drop i xs)
none_left (x ∷ xs) (y ∷ ys) zero h = absurd (omega (arith, h))
none_left (x ∷ xs) (y ∷ ys) (suc i) h = none_left xs ys i (omega (arith, h))

-- where the shorter one ends
all_common : (xs ys : List ℕ) (i least : ℕ) → least ≡ min (length xs) (length ys) → least ≤ i
    → i ≤ least → i + common (drop i xs) (drop i ys) ≡ common xs ys → least ≡ common xs ys
all_common xs ys i least is low high k =
    let n = none_left xs ys i (omega (arith, is, low)) in omega (arith, n, k, low, high)

pub returns-clause-value : goal.returns-clause-value
returns-clause-value c =
    all_common c.args.wanted.now c.args.given.now c.loop-i.i c.min-least.result c.min-least.ensures
    c.loop-i-test.false c.loop-i.auto.i-end c.loop-i.invariant
