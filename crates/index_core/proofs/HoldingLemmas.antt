-- How many of a list hold a generation, with one item fewer or more.
use Rattle.std.proofs.Common.{◌≡◌, ◌<◌, ◌+◌, ℕ, zero, suc, Bool, true, false, cond, not}
use Rattle.std.proofs.Common.{nat_eq, ◌||◌, List, [], ◌∷◌, ◌++◌, length, refl, ap}
use Rattle.std.proofs.Common.{◌∙◌, arith, length-append}
use Rattle.std.specs.Prelude.{filter, nat_lt}
use Rattle.std.specs.List.{AllByRecursion, list_any}
use Rattle.std.proofs.lemmas.Bool.Decides.{nat_tests}
use Rattle.std.proofs.lemmas.List.Elements.{filter-append}
use Rattle.index_core.specs.HeldGenerations.{IsOnce, holder_count}
use Rattle.index_core.specs.Histories.{Record, is_among}
use Rattle.index_core.specs.Records.{current, open_views, open_merges, is_referenced}
use Rattle.index_core.proofs.CountedLemmas.{is_kept}

-- 1 where a test is passed
abbrev pub one_if : Bool → ℕ
one_if b = cond b 1 0

module _ {X : Type 0} (number : X → ℕ) (x : X) where
  -- those with another number
  abbrev pub others : List X → List X
  others xs = filter (λ y. not (nat_eq (number y) (number x))) xs

  abbrev same : List X → ℕ
  same xs = length (filter (λ y. nat_eq (number y) (number x)) xs)

  step_same : (t : X → Bool) (b : Bool) (k : ℕ) (y : X) (xs rest : List X)
      → length (filter t xs) ≡ length rest + cond b k 0
      → length (cond b (y ∷ filter t xs) (filter t xs)) ≡ length rest + cond b (suc k) 0
  step_same t true k y xs rest later = omega (arith, later)
  step_same t false k y xs rest later = later

  step_other : (b : Bool) (k : ℕ) (y : X) (xs rest : List X) → length xs ≡ length rest + k
      → length (cond b (y ∷ xs) xs) ≡ length (cond b (y ∷ rest) rest) + k
  step_other true k y xs rest later = omega (arith, later)
  step_other false k y xs rest later = later

  no_more : (b : Bool) → 0 ≡ 0 + cond b 0 0
  no_more true = refl
  no_more false = refl

  count_split : (t : X → Bool) (xs : List X)
      → AllByRecursion (λ y. nat_eq (number y) (number x) ≡ true → y ≡ x) xs
      → length (filter t xs) ≡ length (filter t (others xs)) + cond (t x) (same xs) 0
  count_split t [] only = no_more (t x)
  count_split t (y ∷ ys) only =
      by_test (nat_eq (number y) (number x)) refl (count_split t ys only.1)
    where
      by_test : (b : Bool) → nat_eq (number y) (number x) ≡ b
          → length (filter t ys) ≡ length (filter t (others ys)) + cond (t x) (same ys) 0
          → length (cond (t y) (y ∷ filter t ys) (filter t ys))
          ≡ length (filter t (cond (not b) (y ∷ others ys) (others ys)))
          + cond (t x) (length (cond b (y ∷ filter (λ z. nat_eq (number z) (number x)) ys)
          (filter (λ z. nat_eq (number z) (number x)) ys))) 0
      by_test true is later =
          ap (λ (b : Bool). length (cond b (y ∷ filter t ys) (filter t ys))) (ap t (only.0 is))
          ∙ step_same t (t x) (same ys) y ys (filter t (others ys)) later
      by_test false is later =
          step_other (t y) (cond (t x) (same ys) 0) y (filter t ys) (filter t (others ys)) later

  -- one fewer
  pub count_without : (t : X → Bool) (xs : List X) → IsOnce number x xs
      → length (filter t xs) ≡ length (filter t (others xs)) + one_if (t x)
  count_without t xs is =
      count_split t xs is.only
      ∙ ap (λ (k : ℕ). length (filter t (others xs)) + cond (t x) k 0) is.once

-- one more
pub count_with : {X : Type 0} (t : X → Bool) (xs : List X) (x : X)
    → length (filter t (xs ++ x ∷ [])) ≡ length (filter t xs) + one_if (t x)
count_with t xs x =
    ap (λ zs. length zs) (filter-append t xs (x ∷ []))
    ∙ length-append (filter t xs) (filter t (x ∷ [])) ∙ by_test (t x)
  where
    by_test : (b : Bool) → length (filter t xs) + length (cond b (x ∷ []) [])
        ≡ length (filter t xs) + one_if b
    by_test true = refl
    by_test false = refl

-- ---- whether a generation is referenced

some_or_none : {X : Type 0} (t : X → Bool) (xs : List X)
    → list_any t xs ≡ nat_lt 0 (length (filter t xs))
some_or_none t [] = refl
some_or_none t (x ∷ xs) = by_test (t x) (some_or_none t xs)
  where
    by_test : (b : Bool) → list_any t xs ≡ nat_lt 0 (length (filter t xs))
        → (b || list_any t xs) ≡ nat_lt 0 (length (cond b (x ∷ filter t xs) (filter t xs)))
    by_test true e = grind (arith, nat_tests)
    by_test false e = e

either_some : (m n : ℕ) → (nat_lt 0 m || nat_lt 0 n) ≡ nat_lt 0 (m + n)
either_some zero n = ap (nat_lt 0) (sum n)
  where
    sum : (k : ℕ) → k ≡ 0 + k
    sum k = omega arith
either_some (suc m) n = there (suc m) n (omega arith)
  where
    there : (a b : ℕ) → 0 < a → (nat_lt 0 a || nat_lt 0 b) ≡ nat_lt 0 (a + b)
    there a b some =
        let left : nat_lt 0 a ≡ true = grind (arith, nat_tests) in
        let whole : nat_lt 0 (a + b) ≡ true = grind (arith, nat_tests) in
        rw (left, whole) refl

-- a generation is referenced where it is current or has a holder
pub referenced_is : (r : Record) (g : ℕ)
    → is_referenced r g ≡ is_kept (λ n. is_among n (current r)) (holder_count r) g
referenced_is r g =
    ap (λ (b : Bool). is_among g (current r)
    || (b || list_any (λ m. is_among g m.generations) (open_merges r)))
    (some_or_none (λ v. is_among g v.generations) (open_views r))
    ∙ ap (λ (b : Bool). is_among g (current r)
    || (nat_lt 0 (length (filter (λ v. is_among g v.generations) (open_views r))) || b))
    (some_or_none (λ m. is_among g m.generations) (open_merges r))
    ∙ ap (λ (b : Bool). is_among g (current r) || b)
    (either_some (length (filter (λ v. is_among g v.generations) (open_views r)))
    (length (filter (λ m. is_among g m.generations) (open_merges r))))
