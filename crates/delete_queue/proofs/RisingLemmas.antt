-- Rising lists with the same members are one, and places rise.
use Rattle.std.proofs.Common.{◌≡◌, ◌<◌, ◌≤◌, ◌+◌, ℕ, Bool, true, false, cond}
use Rattle.std.proofs.Common.{nat_eq, List, [], ◌∷◌, length, refl, sym}
use Rattle.std.proofs.Common.{ap, ◌∙◌, arith, add-one}
use Rattle.std.specs.Prelude.{nat_lt, eqb, slice_index, Contains}
use Rattle.std.specs.List.{list_any, dedup}
use Rattle.std.specs.List.Sorted.{IsPermutation, IsSorted, IsStrictlyIncreasing}
use Rattle.std.specs.Ordering.{nat_cmp}
use Rattle.std.proofs.lemmas.Bool.Decides.{nat_tests}
use Rattle.std.proofs.lemmas.Cmp.{nat_eq_equiv}
use Rattle.std.proofs.lemmas.List.Sorted.{list_any-IsPermutation}
use Rattle.std.proofs.lemmas.List.Kept.{Contains-dedup_nat, Contains-from_dedup}
use Rattle.std.proofs.lemmas.Map.Keys.{IsStrictlyIncreasing-dedup}
use Rattle.std.proofs.lemmas.Map.Views.{list_any-from_Contains, Contains-from_any}
use Rattle.seg_table.specs.Ids.{places_from}

-- whether a number is in a list
abbrev pub is_in : ℕ → List ℕ → Bool
is_in i xs = list_any (nat_eq i) xs

-- ---- rising lists

-- rising, from a number on
abbrev pub Rise : ℕ → List ℕ → Type 0
Rise n [] = Unit {0}
Rise n (x ∷ xs) = (n ≤ x) × Rise (x + 1) xs

rise_from : (m n : ℕ) (xs : List ℕ) → m ≤ n → Rise n xs → Rise m xs
rise_from m n [] h up = tt
rise_from m n (x ∷ xs) h up = (omega (arith, h, up.0), up.1)

-- what is below all isn't in
pub not_below : (i n : ℕ) (xs : List ℕ) → i < n → Rise n xs → is_in i xs ≡ false
not_below i n [] h up = refl
not_below i n (x ∷ xs) h up =
    let other : nat_eq i x ≡ false = let less = up.0 in grind (arith, nat_tests) in
    rw other (not_below i (x + 1) xs (omega (arith, h, up.0)) up.1)

itself : (i : ℕ) (xs : List ℕ) → is_in i (i ∷ xs) ≡ true
itself i xs = rw (nat_eq_equiv.refl i) refl

-- the heads of lists with the same members
same_head : (m n x y : ℕ) (xs ys : List ℕ) → Rise m (x ∷ xs) → Rise n (y ∷ ys)
    → ((i : ℕ) → is_in i (x ∷ xs) ≡ is_in i (y ∷ ys)) → x ≤ y
same_head m n x y xs ys p q same = by_cases (nat_lt y x) refl
  where
    by_cases : (b : Bool) → nat_lt y x ≡ b → x ≤ y
    by_cases false is = grind (arith, nat_tests)
    by_cases true is =
        let less : y < x = grind (arith, nat_tests) in
        let up : Rise x (x ∷ xs) = (omega arith, p.1) in
        absurd (let no : false ≡ true =
        sym (not_below y x (x ∷ xs) less up) ∙ same y ∙ itself y ys in cc)

same_tail : (x i : ℕ) (xs ys : List ℕ) → Rise (x + 1) xs → Rise (x + 1) ys
    → is_in i (x ∷ xs) ≡ is_in i (x ∷ ys) → is_in i xs ≡ is_in i ys
same_tail x i xs ys p q same = by_cases (nat_eq i x) refl
  where
    by_cases : (b : Bool) → nat_eq i x ≡ b → is_in i xs ≡ is_in i ys
    by_cases true is =
        let less : i < x + 1 = grind (arith, nat_tests) in
        not_below i (x + 1) xs less p ∙ sym (not_below i (x + 1) ys less q)
    by_cases false is = rw is at same

pub rise_unique : (m n : ℕ) (xs ys : List ℕ) → Rise m xs → Rise n ys
    → ((i : ℕ) → is_in i xs ≡ is_in i ys) → xs ≡ ys
rise_unique m n [] [] p q same = refl
rise_unique m n [] (y ∷ ys) p q same =
    let no : false ≡ true = same y ∙ itself y ys in cc
rise_unique m n (x ∷ xs) [] p q same =
    let no : true ≡ false = sym (itself x xs) ∙ same x in cc
rise_unique m n (x ∷ xs) (y ∷ ys) p q same =
    let less = same_head m n x y xs ys p q same in
    let more = same_head n m y x ys xs q p (λ i. sym (same i)) in
    let one : y ≡ x = omega (arith, less, more) in
    let q' : Rise (x + 1) ys = rw one at q.1 in
    let same' : (i : ℕ) → is_in i (x ∷ xs) ≡ is_in i (x ∷ ys) = rw one at same in
    ap (λ (z : ℕ). z ∷ xs) (sym one)
    ∙ ap (λ (zs : List ℕ). y ∷ zs)
    (rise_unique (x + 1) (x + 1) xs ys p.1 q' (λ i. same_tail x i xs ys p.1 q' (same' i)))

rise_at : {X : Type 0} (n : ℕ) (test : X → Bool) (b : Bool) (x : X) (xs : List X)
    → Rise (n + 1) (places_from (n + 1) test xs)
    → Rise n (cond b (n ∷ places_from (n + 1) test xs) (places_from (n + 1) test xs))
rise_at n test true x xs up = (omega arith, up)
rise_at n test false x xs up = rise_from n (n + 1) (places_from (n + 1) test xs) (omega arith) up

-- places rise
pub places_rise : {X : Type 0} (n : ℕ) (test : X → Bool) (xs : List X)
    → Rise n (places_from n test xs)
places_rise n test [] = tt
places_rise n test (x ∷ xs) = rise_at n test (test x) x xs (places_rise (n + 1) test xs)

increasing-tail : (x : ℕ) (xs : List ℕ) → IsStrictlyIncreasing (x ∷ xs) → IsStrictlyIncreasing xs
increasing-tail x xs up k h =
    let e = up (k + 1) (omega (arith, h)) in rw (add-one k) (rw (add-one (k + 1), add-one k) at e)

pub rise_of : (n : ℕ) (xs : List ℕ) → IsStrictlyIncreasing xs
    → (0 < length xs → n ≤ slice_index xs 0) → Rise n xs
rise_of n [] up least = tt
rise_of n (x ∷ xs) up least = (
  least (omega arith),
  rise_of (x + 1) xs (increasing-tail x xs up)
      (λ some. let e = up 0 (omega (arith, some)) in omega (arith, e)),
)

-- ---- sorted, each once

nat_eq_exact : (x y : ℕ) → nat_eq x y ≡ true → x ≡ y
nat_eq_exact x y e = grind (arith, nat_tests)

dedup_in : (i : ℕ) (xs : List ℕ) (b c : Bool) → is_in i xs ≡ b → is_in i (dedup eqb xs) ≡ c → b ≡ c
dedup_in i xs true true p q = refl
dedup_in i xs false false p q = refl
dedup_in i xs true false p q =
    let there : Contains xs i = Contains-from_any {eq = nat_eq} nat_eq_exact i xs p in
    let no : is_in i (dedup eqb xs) ≡ true =
    list_any-from_Contains nat_eq_equiv i (dedup eqb xs) (Contains-dedup_nat xs i there) in cc
dedup_in i xs false true p q =
    let there : Contains (dedup eqb xs) i =
    Contains-from_any {eq = nat_eq} nat_eq_exact i (dedup eqb xs) q in
    let no : is_in i xs ≡ true =
    list_any-from_Contains nat_eq_equiv i xs (Contains-from_dedup eqb xs i there) in cc

pub sorted_once : (xs ys places : List ℕ) → IsPermutation xs ys → IsSorted nat_cmp ys
    → Rise 0 places → ((i : ℕ) → is_in i xs ≡ is_in i places) → dedup eqb ys ≡ places
sorted_once xs ys places moved up rise same =
    rise_unique 0 0 (dedup eqb ys) places
    (rise_of 0 (dedup eqb ys) (IsStrictlyIncreasing-dedup ys up) (λ _. omega arith)) rise
    (λ i. sym (dedup_in i ys (is_in i ys) (is_in i (dedup eqb ys)) refl refl)
    ∙ sym (list_any-IsPermutation (nat_eq i) xs ys moved) ∙ same i)
