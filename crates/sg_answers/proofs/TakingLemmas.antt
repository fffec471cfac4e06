-- What is taken of a list, and what passes tests.
use Rattle.std.proofs.Common.{◌≡◌, ◌≤◌, ◌<◌, ℕ, zero, suc, Bool, true, false, cond, List, [], ◌∷◌}
use Rattle.std.proofs.Common.{length, take, refl, ap, arith}
use Rattle.std.specs.Prelude.{filter}

pub take_shorter : {X : Type 0} (k n : ℕ) (xs : List X) → k ≤ n → take k (take n xs) ≡ take k xs
take_shorter zero n xs h = refl
take_shorter (suc k) zero xs h = absurd (omega (arith, h))
take_shorter (suc k) (suc n) [] h = refl
take_shorter (suc k) (suc n) (x ∷ xs) h =
    ap (λ zs. x ∷ zs) (take_shorter k n xs (omega (arith, h)))

-- fewer than k were taken, so all were
pub taken_whole : {X : Type 0} (k : ℕ) (xs : List X) → length (take k xs) < k → take k xs ≡ xs
taken_whole zero xs h = absurd (omega (arith, h))
taken_whole (suc k) [] h = refl
taken_whole (suc k) (x ∷ xs) h = ap (λ zs. x ∷ zs) (taken_whole k xs (omega (arith, h)))

pub taken_at_most : {X : Type 0} (k : ℕ) (xs : List X) → length (take k xs) ≤ k
taken_at_most zero xs = omega arith
taken_at_most (suc k) [] = omega arith
taken_at_most (suc k) (x ∷ xs) = let h = taken_at_most k xs in omega (arith, h)

pub filter_at_most : {X : Type 0} (p : X → Bool) (xs : List X) → length (filter p xs) ≤ length xs
filter_at_most p [] = omega arith
filter_at_most p (x ∷ xs) = by_cases (p x) (filter_at_most p xs)
  where
    by_cases : (b : Bool) → length (filter p xs) ≤ length xs
        → length (cond b (x ∷ filter p xs) (filter p xs)) ≤ length (x ∷ xs)
    by_cases true h = omega (arith, h)
    by_cases false h = omega (arith, h)

-- a filter that takes nothing away
pub filtered_whole : {X : Type 0} (p : X → Bool) (xs : List X) → length xs ≤ length (filter p xs)
    → filter p xs ≡ xs
filtered_whole p [] h = refl
filtered_whole p (x ∷ xs) h = by_cases (p x) h (filter_at_most p xs) (filtered_whole p xs)
  where
    by_cases : (b : Bool) → length (x ∷ xs) ≤ length (cond b (x ∷ filter p xs) (filter p xs))
        → length (filter p xs) ≤ length xs
        → (length xs ≤ length (filter p xs) → filter p xs ≡ xs)
        → cond b (x ∷ filter p xs) (filter p xs) ≡ x ∷ xs
    by_cases true h most again = ap (λ zs. x ∷ zs) (again (omega (arith, h)))
    by_cases false h most again = absurd (omega (arith, h, most))

-- what passes a first test passes a second
pub filter_inside : {X : Type 0} (p q : X → Bool) (xs : List X)
    → ((x : X) → p x ≡ true → q x ≡ true) → filter p (filter q xs) ≡ filter p xs
filter_inside p q [] h = refl
filter_inside p q (x ∷ xs) h = by_cases (p x) (q x) refl refl (filter_inside p q xs h)
  where
    by_cases : (b c : Bool) → p x ≡ b → q x ≡ c → filter p (filter q xs) ≡ filter p xs
        → filter p (filter q (x ∷ xs)) ≡ filter p (x ∷ xs)
    by_cases b true pb qb e = rw qb (ap (λ zs. cond (p x) (x ∷ zs) zs) e)
    by_cases false false pb qb e = rw qb (rw pb e)
    by_cases true false pb qb e = let no : q x ≡ true = h x pb in cc

-- no fewer pass a weaker test
pub filter_weaker : {X : Type 0} (p q : X → Bool) (xs : List X)
    → ((x : X) → p x ≡ true → q x ≡ true) → length (filter p xs) ≤ length (filter q xs)
filter_weaker p q [] h = omega arith
filter_weaker p q (x ∷ xs) h = by_cases (p x) (q x) refl refl (filter_weaker p q xs h)
  where
    by_cases : (b c : Bool) → p x ≡ b → q x ≡ c → length (filter p xs) ≤ length (filter q xs)
        → length (cond b (x ∷ filter p xs) (filter p xs))
        ≤ length (cond c (x ∷ filter q xs) (filter q xs))
    by_cases true true pb qb e = omega (arith, e)
    by_cases true false pb qb e = absurd (let no : q x ≡ true = h x pb in cc)
    by_cases false true pb qb e = omega (arith, e)
    by_cases false false pb qb e = e

-- nor among more
pub filter_of_taken : {X : Type 0} (p : X → Bool) (k : ℕ) (xs : List X)
    → length (filter p (take k xs)) ≤ length (filter p xs)
filter_of_taken p zero xs = omega arith
filter_of_taken p (suc k) [] = omega arith
filter_of_taken p (suc k) (x ∷ xs) = by_cases (p x) (filter_of_taken p k xs)
  where
    by_cases : (b : Bool) → length (filter p (take k xs)) ≤ length (filter p xs)
        → length (cond b (x ∷ filter p (take k xs)) (filter p (take k xs)))
        ≤ length (cond b (x ∷ filter p xs) (filter p xs))
    by_cases true e = omega (arith, e)
    by_cases false e = e

pub filter_all : {X : Type 0} (xs : List X) → filter (λ _. true) xs ≡ xs
filter_all [] = refl
filter_all (x ∷ xs) = ap (λ zs. x ∷ zs) (filter_all xs)
