-- What a list in order keeps: its items, what holds of all and of each two, its length, and its
-- filters.
use Rattle.std.proofs.Common.{◌≡◌, ◌+◌, ℕ, suc, Bool, true, false, cond, ◌⊎◌, inl, inr, filter}
use Rattle.std.proofs.Common.{List, [], ◌∷◌, length, refl, sym, ap, ◌∙◌, subst, zero-add, Ordering}
use Rattle.std.specs.Ordering.{is_lt}
use Rattle.std.specs.declared.cmp.Ordering.TheVariants.{Equal}
use Rattle.std.specs.Cmp.{IsTotalOrder}
use Rattle.std.specs.List.{AllByRecursion}
use Rattle.std.specs.List.Sorted.{IsPermutation}
use Rattle.std.proofs.lemmas.List.Sorted.{IsPermutation-refl, IsPermutation-sym}
use Rattle.std.proofs.lemmas.List.Sorted.{IsPermutation-trans, IsPermutation-cons}
use Rattle.std.proofs.lemmas.List.Sorted.{IsPermutation-middle}
use Rattle.sg_base.specs.Lists.{In, Pairs}
use Rattle.sg_base.specs.Ranking.{put_in, in_order}
use Rattle.sg_base.proofs.ListLemmas.{each_in, all_of}
use Rattle.sg_base.proofs.Sorting.{NoneBelow, Rises, rises-in_order, rising_unique, total_of}
use Rattle.sg_base.proofs.Sorting.{total_of-in_order}

module _ {X : Type 0} (R : X → X → Ordering) where
  -- its items, each as often
  moves-put_at : (x y : X) (ys : List X) (b : Bool) → IsPermutation (x ∷ ys) (put_in R x ys)
      → IsPermutation (x ∷ (y ∷ ys)) (cond b (y ∷ put_in R x ys) (x ∷ (y ∷ ys)))
  moves-put_at x y ys true h =
      IsPermutation-trans (x ∷ (y ∷ ys)) (y ∷ (x ∷ ys)) (y ∷ put_in R x ys)
      (IsPermutation-sym (y ∷ (x ∷ ys)) (x ∷ (y ∷ ys)) (IsPermutation-middle (y ∷ []) x ys))
      (IsPermutation-cons y (x ∷ ys) (put_in R x ys) h)
  moves-put_at x y ys false h = IsPermutation-refl (x ∷ (y ∷ ys))

  moves-put_in : (x : X) (ys : List X) → IsPermutation (x ∷ ys) (put_in R x ys)
  moves-put_in x [] = IsPermutation-refl (x ∷ [])
  moves-put_in x (y ∷ ys) = moves-put_at x y ys (is_lt (R y x)) (moves-put_in x ys)

  pub moves-in_order : (xs : List X) → IsPermutation xs (in_order R xs)
  moves-in_order [] = IsPermutation-refl []
  moves-in_order (x ∷ xs) =
      IsPermutation-trans (x ∷ xs) (x ∷ in_order R xs) (in_order R (x ∷ xs))
      (IsPermutation-cons x xs (in_order R xs) (moves-in_order xs))
      (moves-put_in x (in_order R xs))

  -- what holds of all
  all-put_at : (P : X → Type 0) (x y : X) (ys : List X) (b : Bool) → P x → P y
      → AllByRecursion P ys → AllByRecursion P (put_in R x ys)
      → AllByRecursion P (cond b (y ∷ put_in R x ys) (x ∷ (y ∷ ys)))
  all-put_at P x y ys true p q a h = (q, h)
  all-put_at P x y ys false p q a h = (p, (q, a))

  all-put_in : (P : X → Type 0) (x : X) (ys : List X) → P x → AllByRecursion P ys
      → AllByRecursion P (put_in R x ys)
  all-put_in P x [] p a = (p, tt)
  all-put_in P x (y ∷ ys) p a =
      all-put_at P x y ys (is_lt (R y x)) p a.0 a.1 (all-put_in P x ys p a.1)

  pub all-in_order : (P : X → Type 0) (xs : List X) → AllByRecursion P xs
      → AllByRecursion P (in_order R xs)
  all-in_order P [] a = tt
  all-in_order P (x ∷ xs) a = all-put_in P x (in_order R xs) a.0 (all-in_order P xs a.1)

  -- the length
  length-put_at : (x y : X) (ys : List X) (b : Bool) → length (put_in R x ys) ≡ suc (length ys)
      → length (cond b (y ∷ put_in R x ys) (x ∷ (y ∷ ys))) ≡ suc (suc (length ys))
  length-put_at x y ys true h = ap suc h
  length-put_at x y ys false h = refl

  length-put_in : (x : X) (ys : List X) → length (put_in R x ys) ≡ suc (length ys)
  length-put_in x [] = refl
  length-put_in x (y ∷ ys) = length-put_at x y ys (is_lt (R y x)) (length-put_in x ys)

  pub length-in_order : (xs : List X) → length (in_order R xs) ≡ length xs
  length-in_order [] = refl
  length-in_order (x ∷ xs) = length-put_in x (in_order R xs) ∙ ap suc (length-in_order xs)

  -- members
  in-put_at : (x y z : X) (ys : List X) (b : Bool)
      → (In y (put_in R x ys) → (y ≡ x) ⊎ In y ys)
      → In y (cond b (z ∷ put_in R x ys) (x ∷ (z ∷ ys))) → (y ≡ x) ⊎ In y (z ∷ ys)
  in-put_at x y z ys true f (inl e) = inr (inl e)
  in-put_at x y z ys true f (inr j) =
      elim (f j) as (λ _. (y ≡ x) ⊎ In y (z ∷ ys)) [ inl e ↦ inl e | inr k ↦ inr (inr k) ]
  in-put_at x y z ys false f j = j

  in-put_in : (x y : X) (ys : List X) → In y (put_in R x ys) → (y ≡ x) ⊎ In y ys
  in-put_in x y [] i = i
  in-put_in x y (z ∷ ys) i = in-put_at x y z ys (is_lt (R z x)) (in-put_in x y ys) i

  pub in-in_order : (x : X) (xs : List X) → In x (in_order R xs) → In x xs
  in-in_order x xs i =
      each_in (λ y. In y xs) x (in_order R xs)
      (all-in_order (λ y. In y xs) xs (all_of (λ y. In y xs) xs (λ y j. j))) i

  -- what holds of each two, where the order of the two doesn't matter
  pairs-put_at : (S : X → X → Type 0) (x z : X) (ys : List X) (b : Bool)
      → ((y : X) → In y (z ∷ ys) → S x y) → Pairs S (z ∷ ys)
      → ((y : X) → In y (put_in R x ys) → S z y) → Pairs S (put_in R x ys)
      → Pairs S (cond b (z ∷ put_in R x ys) (x ∷ (z ∷ ys)))
  pairs-put_at S x z ys true f p first h = (first, h)
  pairs-put_at S x z ys false f p first h = (f, p)

  pairs-put_in : (S : X → X → Type 0) → ((x y : X) → S x y → S y x) → (x : X) (ys : List X)
      → ((y : X) → In y ys → S x y) → Pairs S ys → Pairs S (put_in R x ys)
  pairs-put_in S turn x [] f p = (f, tt)
  pairs-put_in S turn x (z ∷ ys) f p =
      pairs-put_at S x z ys (is_lt (R z x)) f p
      (λ y i. elim (in-put_in x y ys i) as (λ _. S z y) [
        | inl e ↦ subst (S z) (sym e) (turn x z (f z (inl refl)))
        | inr j ↦ p.0 y j
      ])
      (pairs-put_in S turn x ys (λ y i. f y (inr i)) p.1)

  pub pairs-in_order : (S : X → X → Type 0) → ((x y : X) → S x y → S y x) → (xs : List X)
      → Pairs S xs → Pairs S (in_order R xs)
  pairs-in_order S turn [] p = tt
  pairs-in_order S turn (x ∷ xs) p =
      pairs-put_in S turn x (in_order R xs) (λ y i. p.0 y (in-in_order y xs i))
      (pairs-in_order S turn xs p.1)

module _ {X : Type 0} (R : X → X → Ordering) (total : IsTotalOrder R)
    (same : (x y : X) → R x y ≡ Equal → x ≡ y) where
  -- the filter of a rising list rises
  none_below-filter_at : (x y : X) (ys : List X) (b : Bool) → is_lt (R y x) ≡ false
      → NoneBelow R total same x ys → NoneBelow R total same x (cond b (y ∷ ys) ys)
  none_below-filter_at x y ys true h a = (h, a)
  none_below-filter_at x y ys false h a = a

  none_below-filter : (p : X → Bool) (x : X) (ys : List X) → NoneBelow R total same x ys
      → NoneBelow R total same x (filter p ys)
  none_below-filter p x [] a = tt
  none_below-filter p x (y ∷ ys) a =
      none_below-filter_at x y (filter p ys) (p y) a.0 (none_below-filter p x ys a.1)

  rises-filter_at : (x : X) (xs : List X) (b : Bool) → NoneBelow R total same x xs
      → Rises R total same xs → Rises R total same (cond b (x ∷ xs) xs)
  rises-filter_at x xs true a r = (a, r)
  rises-filter_at x xs false a r = r

  rises-filter : (p : X → Bool) (xs : List X) → Rises R total same xs
      → Rises R total same (filter p xs)
  rises-filter p [] r = tt
  rises-filter p (x ∷ xs) r =
      rises-filter_at x (filter p xs) (p x) (none_below-filter p x xs r.0) (rises-filter p xs r.1)

  -- its sums are those of what passes
  total_of-filter_at : (f : X → ℕ) (x : X) (xs : List X) (m : ℕ) (b : Bool)
      → total_of R total same f xs ≡ m
      → total_of R total same f (cond b (x ∷ xs) xs) ≡ cond b (f x) 0 + m
  total_of-filter_at f x xs m true h = ap (λ n. f x + n) h
  total_of-filter_at f x xs m false h = h ∙ sym (zero-add m)

  total_of-filter : (f : X → ℕ) (p : X → Bool) (xs : List X)
      → total_of R total same f (filter p xs) ≡ total_of R total same (λ x. cond (p x) (f x) 0) xs
  total_of-filter f p [] = refl
  total_of-filter f p (x ∷ xs) =
      total_of-filter_at f x (filter p xs) _ (p x) (total_of-filter f p xs)

  -- what passes of a list in order, where it rises already
  pub filter-in_order : (p : X → Bool) (xs : List X) → Rises R total same (filter p xs)
      → filter p (in_order R xs) ≡ filter p xs
  filter-in_order p xs up =
      rising_unique R total same (filter p (in_order R xs)) (filter p xs)
      (rises-filter p (in_order R xs) (rises-in_order R total same xs)) up
      (λ f. total_of-filter f p (in_order R xs)
      ∙ total_of-in_order R total same (λ x. cond (p x) (f x) 0) xs
      ∙ sym (total_of-filter f p xs))
