-- Lists of what callers have begun, each item under a number: those of one caller.
use Rattle.std.proofs.Common.{◌≡◌, ◌⊎◌, inl, inr, ◌<◌, ℕ, zero, suc, Bool, true}
use Rattle.std.proofs.Common.{false, cond, not, nat_eq, List, [], ◌∷◌, ◌++◌, length, refl, sym, ap}
use Rattle.std.proofs.Common.{◌∙◌, subst, arith}
use Rattle.std.specs.Prelude.{filter, Contains, slice_index_or}
use Rattle.std.specs.List.{AllByRecursion}
use Rattle.std.proofs.lemmas.Bool.Decides.{nat_tests}
use Rattle.std.proofs.lemmas.List.{append-nil}
use Rattle.std.proofs.lemmas.List.Elements.{filter-append, Contains-append_right}

-- where none passes, each fails
pub none_passes : {X : Type 0} (p : X → Bool) (xs : List X) → filter p xs ≡ []
    → AllByRecursion (λ x. p x ≡ false) xs
none_passes p [] none = tt
none_passes p (x ∷ xs) none = by_test (p x) refl none (λ rest. none_passes p xs rest)
  where
    by_test : (b : Bool) → p x ≡ b → cond b (x ∷ filter p xs) (filter p xs) ≡ []
        → (filter p xs ≡ [] → AllByRecursion (λ y. p y ≡ false) xs)
        → AllByRecursion (λ y. p y ≡ false) (x ∷ xs)
    by_test true is none' again =
        let no : length (x ∷ filter p xs) ≡ 0 = ap length none' in absurd (omega (arith, no))
    by_test false is none' again = (is, again none')

pub filters_swap : {X : Type 0} (p q : X → Bool) (xs : List X)
    → filter p (filter q xs) ≡ filter q (filter p xs)
filters_swap p q [] = refl
filters_swap p q (x ∷ xs) = by_tests (p x) (q x) refl refl (filters_swap p q xs)
  where
    by_tests : (b c : Bool) → p x ≡ b → q x ≡ c → filter p (filter q xs) ≡ filter q (filter p xs)
        → filter p (cond c (x ∷ filter q xs) (filter q xs))
        ≡ filter q (cond b (x ∷ filter p xs) (filter p xs))
    by_tests true true is is' e = rw (is, is') (ap (λ ys. x ∷ ys) e)
    by_tests true false is is' e = rw is' e
    by_tests false true is is' e = rw is e
    by_tests false false is is' e = e

-- ---- items that are there

first_or_later : {X : Type 0} (y x : X) (ys : List X) → Contains (y ∷ ys) x
    → (y ≡ x) ⊎ Contains ys x
first_or_later {X} y x ys there = by_place there.0 there.1 there.2
  where
    by_place : (k : ℕ) → k < length (y ∷ ys) → slice_index_or (y ∷ ys) k x ≡ x
        → (y ≡ x) ⊎ Contains ys x
    by_place zero within is = inl is
    by_place (suc k) within is = inr (k, omega (arith, within), is)

-- what passes a test is in the list
pub in_whole : {X : Type 0} (p : X → Bool) (xs : List X) (x : X) → Contains (filter p xs) x
    → Contains xs x
in_whole p [] x there = there
in_whole p (y ∷ ys) x there = by_test (p y) there (λ found. in_whole p ys x found)
  where
    by_test : (b : Bool) → Contains (cond b (y ∷ filter p ys) (filter p ys)) x
        → (Contains (filter p ys) x → Contains ys x) → Contains (y ∷ ys) x
    by_test false found again = Contains-append_right (y ∷ []) ys x (again found)
    by_test true found again =
        elim (first_or_later y x (filter p ys) found) [
          | inl is ↦ (zero, omega arith, is)
          | inr later ↦ Contains-append_right (y ∷ []) ys x (again later)
        ]

-- what is in the list and passes is among those that do
pub in_filtered : {X : Type 0} (p : X → Bool) (xs : List X) (x : X) → p x ≡ true → Contains xs x
    → Contains (filter p xs) x
in_filtered p [] x passes there = there
in_filtered p (y ∷ ys) x passes there =
    elim (first_or_later y x ys there) [
      | inl is ↦
          let test : p y ≡ true = ap p is ∙ passes in
          subst (λ (b : Bool). Contains (cond b (y ∷ filter p ys) (filter p ys)) x) (sym test)
          (zero, omega arith, is)
      | inr later ↦ by_test (p y) (in_filtered p ys x passes later)
    ]
  where
    by_test : (b : Bool) → Contains (filter p ys) x
        → Contains (cond b (y ∷ filter p ys) (filter p ys)) x
    by_test false found = found
    by_test true found = Contains-append_right (y ∷ []) (filter p ys) x found

-- ---- numbers

-- without the newest item, whose number is greater, those before it are left
pub without_newest : {X : Type 0} (number : X → ℕ) (n : ℕ) (xs : List X) (x : X)
    → AllByRecursion (λ y. number y < n) xs → number x ≡ n
    → filter (λ y. not (nat_eq (number y) n)) (xs ++ x ∷ []) ≡ xs
without_newest number n [] x all is =
    let same : nat_eq (number x) n ≡ true = grind (arith, nat_tests, is) in rw same refl
without_newest {X} number n (y ∷ ys) x all is =
    let less : number y < n = all.0 in
    let other : nat_eq (number y) n ≡ false = grind (arith, nat_tests, less) in
    rw other (ap (λ (zs : List X). y ∷ zs) (without_newest number n ys x all.1 is))

-- ---- those of one caller

module _ {X : Type 0} (caller : X → ℕ) (c : ℕ) where
  abbrev mine : List X → List X
  mine xs = filter (λ x. nat_eq (caller x) c) xs

  -- one more of its own
  pub own_more : (xs : List X) (x : X) → caller x ≡ c → mine (xs ++ x ∷ []) ≡ mine xs ++ x ∷ []
  own_more xs x is =
      let test : nat_eq (caller x) c ≡ true = grind (arith, nat_tests, is) in
      filter-append (λ y. nat_eq (caller y) c) xs (x ∷ []) ∙ rw test refl

  -- another's, whatever passes
  pub other_more : (still : X → Bool) (xs : List X) (x : X) → nat_eq (caller x) c ≡ false
      → mine (filter still (xs ++ x ∷ [])) ≡ mine (filter still xs)
  other_more still xs x other =
      ap mine (filter-append still xs (x ∷ []))
      ∙ filter-append (λ y. nat_eq (caller y) c) (filter still xs) (filter still (x ∷ []))
      ∙ ap (λ (ys : List X). mine (filter still xs) ++ ys) (by_test (still x))
      ∙ append-nil (mine (filter still xs))
    where
      by_test : (b : Bool) → mine (cond b (x ∷ []) []) ≡ []
      by_test true = rw other refl
      by_test false = refl

  -- what another's number takes away is none of its own
  pub without_other : (number : X → ℕ) (x : X) (xs : List X) → nat_eq (caller x) c ≡ false
      → AllByRecursion (λ y. nat_eq (number y) (number x) ≡ true → y ≡ x) xs
      → mine (filter (λ y. not (nat_eq (number y) (number x))) xs) ≡ mine xs
  without_other number x [] other only = refl
  without_other number x (y ∷ ys) other only =
      by_tests (nat_eq (number y) (number x)) (nat_eq (caller y) c) refl refl
      (without_other number x ys other only.1)
    where
      by_tests : (a b : Bool) → nat_eq (number y) (number x) ≡ a → nat_eq (caller y) c ≡ b
          → mine (filter (λ z. not (nat_eq (number z) (number x))) ys) ≡ mine ys
          → mine (cond (not a) (y ∷ filter (λ z. not (nat_eq (number z) (number x))) ys)
          (filter (λ z. not (nat_eq (number z) (number x))) ys))
          ≡ cond b (y ∷ mine ys) (mine ys)
      by_tests false b is is' e = rw is' (ap (λ (zs : List X). cond b (y ∷ zs) zs) e)
      by_tests true true is is' e =
          let no : true ≡ false =
          sym is' ∙ ap (λ (z : X). nat_eq (caller z) c) (only.0 is) ∙ other in
          absurd cc
      by_tests true false is is' e = e

  -- its own in a later list, from its own in the one found
  module _ (found later before : List X) (is : mine found ≡ before) where
    pub mine_same : later ≡ found → mine later ≡ before
    mine_same same = ap mine same ∙ is

    pub mine_more : (x : X) → caller x ≡ c → later ≡ found ++ x ∷ []
        → mine later ≡ before ++ x ∷ []
    mine_more x own more =
        ap mine more ∙ own_more found x own ∙ ap (λ (xs : List X). xs ++ x ∷ []) is

    pub mine_fewer : (p : X → Bool) → later ≡ filter p found → mine later ≡ filter p before
    mine_fewer p fewer =
        ap mine fewer ∙ filters_swap (λ x. nat_eq (caller x) c) p found ∙ ap (filter p) is

    pub mine_others : (p : X → Bool) → filter p later ≡ found → filter p (mine later) ≡ before
    mine_others p others =
        filters_swap p (λ x. nat_eq (caller x) c) later ∙ ap mine others ∙ is
