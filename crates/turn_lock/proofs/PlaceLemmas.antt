-- Lists in which one place is changed, or one is added at the end; prefixes of lists.
use Rattle.std.proofs.Common.{◌≡◌, ◌≢◌, ◌<◌, ◌≤◌, ◌+◌, ℕ, zero, suc, List, []}
use Rattle.std.proofs.Common.{◌∷◌, ◌++◌, length, get_or, set, Option, Some, refl, sym, ap}
use Rattle.std.proofs.Common.{◌∙◌, subst, arith, inl, inr, ⊎_elim, ◌⊎◌}
use Rattle.std.specs.List.{sum_by}
use Rattle.std.proofs.lemmas.List.{length-append, append-nil, append_assoc}
use Rattle.std.proofs.lemmas.List.Sums.{sum_by-set, sum_by-append, sum_by-cons}
use mathlib.Core.Option.{some-ne-none, some-injective}
use mathlib.Core.Logic.{dite}
use native.Mathlib.Decide.{ℕ_discrete}
use lib.ListN.{get_elem?}
use Rattle.atomic_table.proofs.Lists.{at_set, set_else, set_here, at_longer}
use Rattle.turn_lock.specs.Handles.{IsPrefix}
use Rattle.turn_lock.specs.Rule.{At, Each, Differ}

-- ---- places

pub same_or_not : (a b : ℕ) → (a ≡ b) ⊎ (a ≢ b)
same_or_not a b = dite (ℕ_discrete a b) (λ e. inl e) (λ n. inr n)

pub at_get : {A : Type 0} (xs : List A) (i : ℕ) (a : A) → At xs i a
    → (i < length xs) × (a ≡ get_or xs i a)
at_get [] i a at = absurd (some-ne-none a (sym at))
at_get (x ∷ xs) zero a at = (omega arith, sym (some-injective x a at))
at_get (x ∷ xs) (suc i) a at = let rest = at_get xs i a at in (omega arith, rest.1)

-- one place has one value
pub one_at : {A : Type 0} (xs : List A) (j k : ℕ) (a b : A) → At xs j a → At xs k b → j ≡ k → a ≡ b
one_at xs j k a b here there same =
    some-injective a b (sym here ∙ (ap (get_elem? xs) same ∙ there))

-- a place in two lists, one behind the other
pub at_both : {A : Type 0} (xs ys : List A) (i : ℕ) (a : A) → At (xs ++ ys) i a
    → At xs i a ⊎ ((j : ℕ) × (i ≡ length xs + j) × At ys j a)
at_both [] ys i a at = inr (i, omega arith, at)
at_both (x ∷ xs) ys zero a at = inl at
at_both (x ∷ xs) ys (suc i) a at =
    ⊎_elim (λ h. inl h) (λ h. inr (h.0, (let e = h.1 in omega arith), h.2)) (at_both xs ys i a at)

-- a place in a list with one more at its end
pub at_end : {A : Type 0} (xs : List A) (r a : A) (i : ℕ) → At (xs ++ r ∷ []) i a
    → At xs i a ⊎ ((i ≡ length xs) × (r ≡ a))
at_end [] r a zero at = inr (omega arith, some-injective r a at)
at_end [] r a (suc i) at = absurd (some-ne-none a (sym at))
at_end (x ∷ xs) r a zero at = inl at
at_end (x ∷ xs) r a (suc i) at =
    ⊎_elim (λ h. inl h) (λ h. inr ((let e = h.0 in omega arith), h.1)) (at_end xs r a i at)

-- ---- one place is changed

module _ {A : Type 0} (xs : List A) (id : ℕ) (v w : A) (at : At xs id v) where
  pub here_now : At (set xs id w) id w
  here_now = set_here xs id w (at_get xs id v at).0

  -- what holds of the changed one and of each other one holds of each
  pub each_set : (P : ℕ → A → Type 0) → P id w
      → ((k : ℕ) (x : A) → At xs k x → k ≢ id → P k x) → Each (set xs id w) P
  each_set P now others k x here = ⊎_elim
      (λ h. subst (P k) h.1 (subst (λ i. P i w) (sym h.0) now))
      (λ h. others k x h.1 h.0)
      (at_set xs id k w x here)

  -- what holds of each one now held of each before, if of the one that was changed
  pub each_before : (P : ℕ → A → Type 0) → P id v → Each (set xs id w) P → Each xs P
  each_before P old now k x here = ⊎_elim
      (λ same. subst (P k) (one_at xs id k v x at here (sym same))
      (subst (λ i. P i v) (sym same) old))
      (λ other. now k x (set_else xs id k w other ∙ here))
      (same_or_not k id)

  -- values differ where the changed one's is no other's
  pub differ_set : {B : Type 0} (f : A → Option B)
      → ((k : ℕ) (x : A) (b : B) → At xs k x → k ≢ id → f x ≡ Some b → f w ≡ Some b → ⊥)
      → Differ xs f → Differ (set xs id w) f
  differ_set f new before j k b x y here there is is' = ⊎_elim
      (λ p. ⊎_elim
      (λ q. p.0 ∙ sym q.0)
      (λ q. absurd (new k y b q.1 q.0 is' (ap f p.1 ∙ is)))
      (at_set xs id k w y there))
      (λ p. ⊎_elim
      (λ q. absurd (new j x b p.1 p.0 is (ap f q.1 ∙ is')))
      (λ q. before j k b x y p.1 q.1 is is')
      (at_set xs id k w y there))
      (at_set xs id j w x here)

  -- so they do where it has the value that it had
  pub differ_kept : {B : Type 0} (f : A → Option B) → f w ≡ f v → Differ xs f
      → Differ (set xs id w) f
  differ_kept f same before =
      differ_set f
      (λ k x b here other is now. other (before k id b x v here at is (sym same ∙ now)))
      before

  -- a sum
  pub sum_set : (f : A → ℕ) → sum_by f (set xs id w) + f v ≡ sum_by f xs + f w
  sum_set f =
      let here = at_get xs id v at in
      ap (λ n. sum_by f (set xs id w) + f n) here.1 ∙ sum_by-set f xs id w v here.0

  pub sum_kept : (f : A → ℕ) → f w ≡ f v → sum_by f (set xs id w) ≡ sum_by f xs
  sum_kept f same = let s = sum_set f in omega arith

-- ---- one is added at the end

module _ {A : Type 0} (xs : List A) (r : A) where
  pub each_added : (P : ℕ → A → Type 0) → P (length xs) r → Each xs P → Each (xs ++ r ∷ []) P
  each_added P now before k x here = ⊎_elim
      (λ h. before k x h)
      (λ h. subst (P k) h.1 (subst (λ i. P i r) (sym h.0) now))
      (at_end xs r x k here)

  pub differ_added : {B : Type 0} (f : A → Option B)
      → ((k : ℕ) (x : A) (b : B) → At xs k x → f x ≡ Some b → f r ≡ Some b → ⊥)
      → Differ xs f → Differ (xs ++ r ∷ []) f
  differ_added f new before j k b x y here there is is' = ⊎_elim
      (λ p. ⊎_elim
      (λ q. before j k b x y p q is is')
      (λ q. absurd (new j x b p is (ap f q.1 ∙ is')))
      (at_end xs r y k there))
      (λ p. ⊎_elim
      (λ q. absurd (new k y b q is' (ap f p.1 ∙ is)))
      (λ q. p.0 ∙ sym q.0)
      (at_end xs r y k there))
      (at_end xs r x j here)

  pub sum_added : (f : A → ℕ) → sum_by f (xs ++ r ∷ []) ≡ sum_by f xs + f r
  sum_added f = omega (arith, sum_by-append f xs (r ∷ []), sum_by-cons f r [])

-- a sum of smaller numbers is smaller
pub sum_le : {A : Type 0} (f g : A → ℕ) (xs : List A) → Each xs (λ k x. f x ≤ g x)
    → sum_by f xs ≤ sum_by g xs
sum_le f g [] each = omega arith
sum_le f g (x ∷ xs) each =
    let first = each 0 x refl in
    let rest = sum_le f g xs (λ k y here. each (suc k) y here) in
    omega (arith, sum_by-cons f x xs, sum_by-cons g x xs)

-- ---- prefixes

pub prefix_self : {A : Type 0} (xs : List A) → IsPrefix xs xs
prefix_self xs = ([], sym (append-nil xs))

pub prefix_of_nothing : {A : Type 0} (xs : List A) → IsPrefix [] xs
prefix_of_nothing xs = (xs, refl)

pub prefix_on : {A : Type 0} (xs ys zs : List A) → IsPrefix xs ys → IsPrefix ys zs → IsPrefix xs zs
prefix_on {A = A} xs ys zs p q =
    (p.0 ++ q.0, q.1 ∙ (ap (λ (u : List A). u ++ q.0) p.1 ∙ append_assoc xs p.0 q.0))

pub prefix_length : {A : Type 0} (xs ys : List A) → IsPrefix xs ys → length xs ≤ length ys
prefix_length xs ys p = let e = ap length p.1 in omega (arith, length-append xs p.0)

-- a prefix that isn't shorter is the list itself
pub prefix_whole : {A : Type 0} (xs ys : List A) → IsPrefix xs ys → length ys ≤ length xs → xs ≡ ys
prefix_whole xs ys ([], e) le = sym (e ∙ append-nil xs)
prefix_whole xs ys (m ∷ ms, e) le =
    let longer = ap length e in absurd (omega (arith, length-append xs (m ∷ ms)))

-- what stands in a prefix stands in the list
pub at_prefix : {A : Type 0} (xs ys : List A) (i : ℕ) (a : A) → IsPrefix xs ys → At xs i a
    → At ys i a
at_prefix xs ys i a p here = ap (λ l. get_elem? l i) p.1 ∙ at_longer xs p.0 i a here
