-- Numbers that rise, with a greater one behind them.
use Rattle.std.proofs.Common.{◌≡◌, ◌<◌, ◌≤◌, ◌+◌, ℕ, zero, suc, List, [], ◌∷◌, ◌++◌, length}
use Rattle.std.proofs.Common.{get_or, subst, sym, arith}
use Rattle.std.specs.Prelude.{map}
use Rattle.std.specs.List.{AllByRecursion}
use Rattle.std.specs.List.Sorted.{IsStrictlyIncreasing}
use Rattle.merge_plan.specs.declared.size.Size.{Size}

-- the generations rise, up to this number
abbrev pub RiseTo : ℕ → List Size → Type 0
RiseTo last sizes =
    IsStrictlyIncreasing (map (λ s. s.generation) sizes)
    × AllByRecursion (λ s. s.generation ≤ last) sizes

pub rises-push : (x : Size) (sizes : List Size)
    → IsStrictlyIncreasing (map (λ s. s.generation) sizes)
    → AllByRecursion (λ s. s.generation < x.generation) sizes
    → IsStrictlyIncreasing (map (λ s. s.generation) (sizes ++ x ∷ []))
rises-push x [] rises all k within = absurd (omega (arith, within))
rises-push x (s ∷ []) rises all zero within = all.0
rises-push x (s ∷ []) rises all (suc k) within = absurd (omega (arith, within))
rises-push x (s ∷ z ∷ zs) rises all zero within = rises zero (omega arith)
rises-push x (s ∷ z ∷ zs) rises all (suc k) within =
    let e : suc (k + 1) ≡ suc k + 1 = omega arith in
    let more : List Size = (z ∷ zs) ++ x ∷ [] in
    subst (λ n. get_or (map (λ (y : Size). y.generation) more) k 0
    < get_or (map (λ (y : Size). y.generation) (s ∷ more)) n 0) e
    (rises-push x (z ∷ zs) (λ j least.
    subst (λ n. get_or (map (λ (y : Size). y.generation) (z ∷ zs)) j 0
    < get_or (map (λ (y : Size). y.generation) (s ∷ z ∷ zs)) n 0) (back j)
    (rises (suc j) (omega (arith, least)))) all.1 k (omega (arith, within)))
  where
    back : (j : ℕ) → suc j + 1 ≡ suc (j + 1)
    back j = omega arith

all_at_most : (last : ℕ) (sizes : List Size) → AllByRecursion (λ s. s.generation ≤ last) sizes
    → AllByRecursion (λ s. s.generation < last + 1) sizes
all_at_most last [] all = tt
all_at_most last (s ∷ ss) all =
    let most : s.generation ≤ last = all.0 in (omega arith, all_at_most last ss all.1)

all-push : (last : ℕ) (x : Size) (sizes : List Size) → x.generation ≡ last + 1
    → AllByRecursion (λ s. s.generation ≤ last) sizes
    → AllByRecursion (λ s. s.generation ≤ last + 1) (sizes ++ x ∷ [])
all-push last x [] is all = (omega (arith, is), tt)
all-push last x (s ∷ ss) is all =
    let most : s.generation ≤ last = all.0 in (omega arith, all-push last x ss is all.1)

-- the next one
pub rise_more : (last : ℕ) (x : Size) (sizes : List Size) → x.generation ≡ last + 1
    → RiseTo last sizes → RiseTo (last + 1) (sizes ++ x ∷ [])
rise_more last x sizes is up = (
  rises-push x sizes up.0 (subst (λ n. AllByRecursion (λ s. s.generation < n) sizes) (sym is)
      (all_at_most last sizes up.1)),
  all-push last x sizes is up.1,
)
