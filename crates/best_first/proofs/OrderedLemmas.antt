-- A list in any total order: members, none before one that stands behind it, and where no two tie,
-- strictly rising.
use Rattle.std.proofs.Common.{◌≡◌, Bool, true, false, cond, ◌⊎◌, inl, inr, List, [], ◌∷◌}
use Rattle.std.proofs.Common.{refl, sym, ap, ◌∙◌, subst, filter, Ordering}
use Rattle.std.specs.Ordering.{is_lt, ordering_reverse}
use Rattle.std.specs.declared.cmp.Ordering.TheVariants.{Less, Equal, Greater}
use Rattle.std.specs.Cmp.{IsTotalOrder, IsStrictWeakOrder}
use Rattle.std.proofs.lemmas.List.MinMax.{ranks_by}
use Rattle.sg_base.specs.Lists.{In, Pairs}
use Rattle.sg_base.specs.Ranking.{put_in, in_order}
use Rattle.sg_base.proofs.ListLemmas.{in-filter}
use Rattle.sg_base.proofs.Orders.{at_most_trans, weaken}

clash : {A : Type 0} → true ≡ false → A
clash e = absurd cc

module _ {X : Type 0} (R : X → X → Ordering) where
  put_has_at : (b : Bool) (e x y : X) (ys : List X)
      → ((e ≡ x) ⊎ In e ys → In e (put_in R x ys)) → (e ≡ x) ⊎ ((e ≡ y) ⊎ In e ys)
      → In e (cond b (y ∷ put_in R x ys) (x ∷ (y ∷ ys)))
  put_has_at true e x y ys more (inl h) = inr (more (inl h))
  put_has_at true e x y ys more (inr (inl h)) = inl h
  put_has_at true e x y ys more (inr (inr h)) = inr (more (inr h))
  put_has_at false e x y ys more h = h

  put_has : (e x : X) (ys : List X) → (e ≡ x) ⊎ In e ys → In e (put_in R x ys)
  put_has e x [] h = h
  put_has e x (y ∷ ys) h = put_has_at (is_lt (R y x)) e x y ys (put_has e x ys) h

  pub in_order-has : (e : X) (xs : List X) → In e xs → In e (in_order R xs)
  in_order-has e [] h = h
  in_order-has e (x ∷ xs) (inl h) = put_has e x (in_order R xs) (inl h)
  in_order-has e (x ∷ xs) (inr h) = put_has e x (in_order R xs) (inr (in_order-has e xs h))

  in_put_at : (b : Bool) (e x y : X) (ys : List X)
      → (In e (put_in R x ys) → (e ≡ x) ⊎ In e ys)
      → In e (cond b (y ∷ put_in R x ys) (x ∷ (y ∷ ys))) → (e ≡ x) ⊎ ((e ≡ y) ⊎ In e ys)
  in_put_at true e x y ys more (inl h) = inr (inl h)
  in_put_at true e x y ys more (inr h) =
      elim (more h) as (λ _. (e ≡ x) ⊎ ((e ≡ y) ⊎ In e ys)) [ inl k ↦ inl k | inr k ↦ inr (inr k) ]
  in_put_at false e x y ys more h = h

  in_put : (e x : X) (ys : List X) → In e (put_in R x ys) → (e ≡ x) ⊎ In e ys
  in_put e x [] h = h
  in_put e x (y ∷ ys) h = in_put_at (is_lt (R y x)) e x y ys (in_put e x ys) h

module _ {X : Type 0} (R : X → X → Ordering) (total : IsTotalOrder R) where
  strict : IsStrictWeakOrder (λ x y. is_lt (R x y))
  strict = ranks_by total (λ (x : X). x)

  -- none is followed by one before it
  abbrev pub RisesBy : List X → Type 0
  RisesBy = Pairs (λ a b. is_lt (R b a) ≡ false)

  rises_put_at : (b : Bool) (x y : X) (ys : List X) → is_lt (R y x) ≡ b → RisesBy (y ∷ ys)
      → RisesBy (put_in R x ys) → RisesBy (cond b (y ∷ put_in R x ys) (x ∷ (y ∷ ys)))
  rises_put_at true x y ys is up h = (
    λ e i. elim (in_put R e x ys i) as (λ _. is_lt (R e y) ≡ false) [
      | inl k ↦ subst (λ z. is_lt (R z y) ≡ false) (sym k)
          (weaken (λ a b. is_lt (R a b)) strict y x is)
      | inr k ↦ up.0 e k
    ],
    h,
  )
  rises_put_at false x y ys is up h = (
    λ e i. elim i as (λ _. is_lt (R e x) ≡ false) [
      | inl k ↦ subst (λ z. is_lt (R z x) ≡ false) (sym k) is
      | inr k ↦ at_most_trans (λ a b. is_lt (R a b)) strict x y e is (up.0 e k)
    ],
    up,
  )

  rises_put : (x : X) (ys : List X) → RisesBy ys → RisesBy (put_in R x ys)
  rises_put x [] up = (λ e i. elim i [ ], tt)
  rises_put x (y ∷ ys) up = rises_put_at (is_lt (R y x)) x y ys refl up (rises_put x ys up.1)

  pub rises_in_order : (xs : List X) → RisesBy (in_order R xs)
  rises_in_order [] = tt
  rises_in_order (x ∷ xs) = rises_put x (in_order R xs) (rises_in_order xs)

  strict_at : (x y : X) (o : Ordering) → R x y ≡ o → is_lt (R y x) ≡ false
      → (R x y ≡ Equal → ⊥) → is_lt (R x y) ≡ true
  strict_at x y Less is h n = ap is_lt is
  strict_at x y Equal is h n = absurd (n is)
  strict_at x y Greater is h n =
      let back : R y x ≡ Less = total.antisymm y x ∙ ap ordering_reverse is in
      clash (sym (ap is_lt back) ∙ h)

  -- where no two tie, it rises strictly
  pub strictly : (xs : List X) → RisesBy xs → Pairs (λ a b. R a b ≡ Equal → ⊥) xs
      → Pairs (λ a b. is_lt (R a b) ≡ true) xs
  strictly [] up n = tt
  strictly (x ∷ xs) up n =
      (λ y i. strict_at x y (R x y) refl (up.0 y i) (n.0 y i), strictly xs up.1 n.1)

-- pairs of what passes a test, and pairs of members
pairs_at : {X : Type 0} (S : X → X → Type 0) (p : X → Bool) (x : X) (xs : List X) (b : Bool)
    → Pairs S (x ∷ xs) → Pairs S (filter p xs)
    → Pairs S (cond b (x ∷ filter p xs) (filter p xs))
pairs_at S p x xs true a h = (λ y i. a.0 y (in-filter p y xs i).0, h)
pairs_at S p x xs false a h = h

pub pairs-filter : {X : Type 0} (S : X → X → Type 0) (p : X → Bool) (xs : List X) → Pairs S xs
    → Pairs S (filter p xs)
pairs-filter S p [] a = tt
pairs-filter S p (x ∷ xs) a = pairs_at S p x xs (p x) a (pairs-filter S p xs a.1)

pub pairs-members : {X : Type 0} (S T : X → X → Type 0) (xs : List X) → Pairs S xs
    → ((x y : X) → In x xs → In y xs → S x y → T x y) → Pairs T xs
pairs-members S T [] a f = tt
pairs-members S T (x ∷ xs) a f = (
  λ y i. f x y (inl refl) (inr i) (a.0 y i),
  pairs-members S T xs a.1 (λ u v i j. f u v (inr i) (inr j)),
)
