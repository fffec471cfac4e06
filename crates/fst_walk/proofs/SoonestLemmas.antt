-- The first of the query contexts that are left.
use Rattle.fst_walk.specs.Asked.{comes_first, sooner, soonest}
use Rattle.sg_base.specs.ByteStrings.{is_less}
use Rattle.sg_base.specs.Lists.{In}
use Rattle.sg_context.specs.Boosts.{PlainQueryContext}
use Rattle.std.proofs.Common.{◌≡◌, ℕ, Bool, true, false, ◌&&◌, cond, ◌⊎◌, inl, inr, List, []}
use Rattle.std.proofs.Common.{◌∷◌, ◌++◌, refl, sym, ap, ◌∙◌, subst, append_assoc, Option, Some}
use Rattle.std.proofs.Common.{None}
use Rattle.std.proofs.lemmas.Bool.{and_parts, or_cases, or_parts, and_cases}
use Rattle.std.proofs.lemmas.List.{append-nil}
use Rattle.std.specs.Cmp.Lexicographic.{bytes_decides}
use Rattle.std.specs.Prelude.{bytes_eq}
use Rattle.fst_walk.proofs.BoolLemmas.{not_both}
use Rattle.fst_walk.proofs.AscendingLemmas.{less_trans, other_way}

-- b comes no later than a
abbrev pub NoLater : PlainQueryContext → PlainQueryContext → Type 0
NoLater b a = (is_less b.context a.context ≡ true)
    ⊎ ((a.context ≡ b.context) × (b.prefix ≡ false → a.prefix ≡ false))

pub no_later_itself : (b : PlainQueryContext) → NoLater b b
no_later_itself b = inr (refl, λ e. e)

pub no_later_trans : (a b c : PlainQueryContext) → NoLater a b → NoLater b c → NoLater a c
no_later_trans a b c (inl h) (inl k) = inl (less_trans a.context b.context c.context h k)
no_later_trans a b c (inl h) (inr k) = inl (subst (λ z. is_less a.context z ≡ true) (sym k.0) h)
no_later_trans a b c (inr h) (inl k) = inl (subst (λ z. is_less z c.context ≡ true) h.0 k)
no_later_trans a b c (inr h) (inr k) = inr (k.0 ∙ h.0, λ e. k.1 (h.1 e))

first_true : (q b : PlainQueryContext)
    → (is_less q.context b.context ≡ true) ⊎ ((bytes_eq q.context b.context && q.prefix) ≡ true)
    → NoLater q b
first_true q b (inl h) = inl h
first_true q b (inr h) =
    let p = and_parts (bytes_eq q.context b.context) q.prefix h in
    inr (sym ((bytes_decides q.context b.context).0 p.0), λ e. absurd (not_both q.prefix p.1 e))

first_false : (q b : PlainQueryContext) → is_less q.context b.context ≡ false
    → (bytes_eq q.context b.context ≡ false) ⊎ (q.prefix ≡ false) → (t : Bool)
    → bytes_eq q.context b.context ≡ t → NoLater b q
first_false q b h (inl k) t e =
    inl (other_way q.context b.context
    (λ s. not_both (bytes_eq q.context b.context) ((bytes_decides q.context b.context).1 s)
    k) h)
first_false q b h (inr k) true e = inr ((bytes_decides q.context b.context).0 e, λ _. k)
first_false q b h (inr k) false e =
    inl (other_way q.context b.context
    (λ s. not_both (bytes_eq q.context b.context) ((bytes_decides q.context b.context).1 s)
    e) h)

-- what is found so far: none where none is behind, else one that is, and comes no later than each
-- that is
abbrev pub IsBest : (List ℕ → Bool) → List PlainQueryContext → Option PlainQueryContext → Type 0
IsBest left qs None = (a : PlainQueryContext) → In a qs → left a.context ≡ false
IsBest left qs (Some b) = In b qs × (left b.context ≡ true)
    × ((a : PlainQueryContext) → In a qs → left a.context ≡ true → NoLater b a)

in_left : {X : Type 0} (x : X) (xs ys : List X) → In x xs → In x (xs ++ ys)
in_left x [] ys h = absurd h
in_left x (y ∷ xs) ys (inl e) = inl e
in_left x (y ∷ xs) ys (inr h) = inr (in_left x xs ys h)

in_last : {X : Type 0} (x : X) (xs : List X) → In x (xs ++ x ∷ [])
in_last x [] = inl refl
in_last x (y ∷ xs) = inr (in_last x xs)

in_either_more : {X : Type 0} (x y z : X) (xs : List X) → In x xs ⊎ (x ≡ y)
    → In x (z ∷ xs) ⊎ (x ≡ y)
in_either_more x y z xs (inl h) = inl (inr h)
in_either_more x y z xs (inr e) = inr e

in_either : {X : Type 0} (x y : X) (xs : List X) → In x (xs ++ y ∷ []) → In x xs ⊎ (x ≡ y)
in_either x y [] (inl e) = inr e
in_either x y [] (inr h) = absurd h
in_either x y (z ∷ xs) (inl e) = inl (inl e)
in_either x y (z ∷ xs) (inr h) = in_either_more x y z xs (in_either x y xs h)

best_none_at : (left : List ℕ → Bool) (qs : List PlainQueryContext) (q a : PlainQueryContext)
    → IsBest left qs None
    → left q.context ≡ false → In a qs ⊎ (a ≡ q) → left a.context ≡ false
best_none_at left qs q a h l (inl i) = h a i
best_none_at left qs q a h l (inr e) = ap (λ (x : PlainQueryContext). left x.context) e ∙ l

best_keep_at : (left : List ℕ → Bool) (qs : List PlainQueryContext) (b q a : PlainQueryContext)
    → ((x : PlainQueryContext) → In x qs → left x.context ≡ true → NoLater b x)
    → (left q.context ≡ true → NoLater b q)
    → left a.context ≡ true → In a qs ⊎ (a ≡ q) → NoLater b a
best_keep_at left qs b q a h n l (inl i) = h a i l
best_keep_at left qs b q a h n l (inr e) =
    subst (NoLater b) (sym e) (n (ap (λ (x : PlainQueryContext). left x.context) (sym e) ∙ l))

best_first_at : (left : List ℕ → Bool) (qs : List PlainQueryContext) (q a : PlainQueryContext)
    → IsBest left qs None
    → left a.context ≡ true → In a qs ⊎ (a ≡ q) → NoLater q a
best_first_at left qs q a h l (inl i) = absurd (not_both (left a.context) l (h a i))
best_first_at left qs q a h l (inr e) = subst (NoLater q) (sym e) (no_later_itself q)

best_change : (left : List ℕ → Bool) (qs : List PlainQueryContext) (b q : PlainQueryContext)
    (t : Bool) → comes_first q b ≡ t
    → left q.context ≡ true → IsBest left qs (Some b)
    → IsBest left (qs ++ q ∷ []) (Some (cond t q b))
best_change left qs b q true e l h =
    let n = first_true q b (or_cases (is_less q.context b.context) _ e) in (
      in_last q qs,
      l,
      λ a i k. best_keep_at left qs q q a
          (λ x j m. no_later_trans q b x n (h.2 x j m)) (λ _. no_later_itself q) k
          (in_either a q qs i),
    )
best_change left qs b q false e l h =
    let p = or_parts (is_less q.context b.context) (bytes_eq q.context b.context && q.prefix) e in
    let n = first_false q b p.0 (and_cases (bytes_eq q.context b.context) q.prefix p.1)
    (bytes_eq q.context b.context) refl in (
      in_left b qs (q ∷ []) h.0,
      h.1,
      λ a i k. best_keep_at left qs b q a h.2 (λ _. n) k (in_either a q qs i),
    )

best_step : (left : List ℕ → Bool) (qs : List PlainQueryContext) (best : Option PlainQueryContext)
    (q : PlainQueryContext)
    (t : Bool) → left q.context ≡ t → IsBest left qs best
    → IsBest left (qs ++ q ∷ []) (cond t (Some (sooner best q)) best)
best_step left qs None q false l h = λ a i. best_none_at left qs q a h l (in_either a q qs i)
best_step left qs None q true l h =
    (in_last q qs, l, λ a i k. best_first_at left qs q a h k (in_either a q qs i))
best_step left qs (Some b) q false l h = (
  in_left b qs (q ∷ []) h.0,
  h.1,
  λ a i k. best_keep_at left qs b q a h.2 (λ m. absurd (not_both (left q.context) m l)) k
      (in_either a q qs i),
)
best_step left qs (Some b) q true l h = best_change left qs b q (comes_first q b) refl l h

best_all : (left : List ℕ → Bool) (done qs : List PlainQueryContext)
    (best : Option PlainQueryContext) → IsBest left done best
    → IsBest left (done ++ qs) (soonest left qs best)
best_all left done [] best h = subst (λ xs. IsBest left xs best) (sym (append-nil done)) h
best_all left done (q ∷ qs) best h =
    subst (λ xs. IsBest left xs (soonest left qs
    (cond (left q.context) (Some (sooner best q)) best)))
    (append_assoc done (q ∷ []) qs)
    (best_all left (done ++ q ∷ []) qs _ (best_step left done best q (left q.context) refl h))

pub soonest_is : (left : List ℕ → Bool) (qs : List PlainQueryContext)
    → IsBest left qs (soonest left qs None)
soonest_is left qs = best_all left [] qs None (λ a i. absurd i)
