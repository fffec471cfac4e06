-- The reached paths are the first of the matching paths in order.
use Rattle.std.proofs.Common.{◌≡◌, ◌≤◌, ◌⊎◌, inl, inr, ℕ, zero, suc, Bool, true, List, [], ◌∷◌}
use Rattle.std.proofs.Common.{◌++◌, length, length-append, take, drop, refl, sym, ap, ◌∙◌, subst}
use Rattle.std.proofs.Common.{arith}
use Rattle.std.specs.Cmp.{IsStrictWeakOrder}
use Rattle.std.specs.Ordering.{is_lt}
use Rattle.std.proofs.lemmas.List.MinMax.{ranks_by}
use Rattle.sg_base.specs.Lists.{In, Pairs}
use Rattle.sg_base.proofs.ListLemmas.{in-append}
use Rattle.sg_base.proofs.Orders.{at_most_itself, not_both, weaken}
use Rattle.best_first.specs.Exact.{match_cmp, match_cmp_total}
use Rattle.best_first.specs.Matches.{Match}
use Rattle.best_first.proofs.MemberLemmas.{in-left, in-right}

abbrev pub match_lt : Match → Match → Bool
match_lt a b = is_lt (match_cmp a b)

pub matches_ordered : IsStrictWeakOrder match_lt
matches_ordered = ranks_by match_cmp_total (λ (m : Match). m)

pub never_before_itself : (a : Match) → match_lt a a ≡ true → ⊥
never_before_itself a h = not_both match_lt matches_ordered a a h
    (at_most_itself match_lt matches_ordered a)

pub never_both : (a b : Match) → match_lt a b ≡ true → match_lt b a ≡ true → ⊥
never_both a b p q = not_both match_lt matches_ordered a b p (weaken match_lt matches_ordered b a q)

abbrev pub Rising : List Match → Type 0
Rising = Pairs (λ a b. match_lt a b ≡ true)

abbrev pub Distinct : List Match → Type 0
Distinct = Pairs (λ a b. a ≡ b → ⊥)

-- a list around a member
pub record IsAround (y : Match) (xs : List Match) : Type 0 where
  pub us : List Match
  pub vs : List Match
  pub is : xs ≡ us ++ y ∷ vs

around : (y : Match) (xs : List Match) → In y xs → IsAround y xs
around y [] i = elim i [ ]
around y (x ∷ xs) (inl i) = record { us = []; vs = xs; is = ap (λ z. z ∷ xs) (sym i) }
around y (x ∷ xs) (inr i) =
    let r = around y xs i in
    record { us = x ∷ r.us; vs = r.vs; is = ap (λ zs. x ∷ zs) r.is }

in_around : (x y : Match) (us vs : List Match) → In x (us ++ y ∷ vs) → (x ≡ y) ⊎ In x (us ++ vs)
in_around x y us vs i =
    elim (in-append x us (y ∷ vs) i) as (λ _. (x ≡ y) ⊎ In x (us ++ vs)) [
      | inl j ↦ inr (in-left x us vs j)
      | inr j ↦ elim j as (λ _. (x ≡ y) ⊎ In x (us ++ vs))
          [ inl e ↦ inl e | inr l ↦ inr (in-right x us vs l) ]
    ]

around_in : (x y : Match) (us vs : List Match) → In x (us ++ vs) → In x (us ++ y ∷ vs)
around_in x y us vs i =
    elim (in-append x us vs i) as (λ _. In x (us ++ y ∷ vs))
    [ inl j ↦ in-left x us (y ∷ vs) j | inr j ↦ in-right x us (y ∷ vs) (inr j) ]

distinct_rest : (y : Match) (us vs : List Match) → Distinct (us ++ y ∷ vs) → Distinct (us ++ vs)
distinct_rest y [] vs d = d.1
distinct_rest y (u ∷ us) vs d = (λ x i. d.0 x (around_in x y us vs i), distinct_rest y us vs d.1)

not_again : (x y : Match) (us vs : List Match) → Distinct (us ++ y ∷ vs) → In x (us ++ vs) → x ≡ y
    → ⊥
not_again x y [] vs d i e = d.0 x i (sym e)
not_again x y (u ∷ us) vs d (inl i) e = d.0 y (in-right y us (y ∷ vs) (inl refl)) (sym i ∙ e)
not_again x y (u ∷ us) vs d (inr i) e = not_again x y us vs d.1 i e

length_around : (y : Match) (us vs : List Match) → length (us ++ y ∷ vs) ≡ suc (length (us ++ vs))
length_around y us vs =
    let a = length-append us (y ∷ vs) in
    let b = length-append us vs in
    omega (arith, a, b)

-- each of the order is one of these, or stands behind all of them
abbrev pub IsFront : List Match → List Match → Type 0
IsFront order R = (m : Match) → In m order → In m R ⊎ ((n : Match) → In n R → match_lt n m ≡ true)

first_is_in : (y : Match) (ys : List Match) (r : Match) (rs : List Match) → Rising (y ∷ ys)
    → ((n : Match) → In n (r ∷ rs) → In n (y ∷ ys)) → IsFront (y ∷ ys) (r ∷ rs) → In y (r ∷ rs)
first_is_in y ys r rs up a c =
    elim (c y (inl refl)) as (λ _. In y (r ∷ rs)) [
      | inl i ↦ i
      | inr f ↦ absurd (elim (a r (inl refl)) as (λ _. ⊥) [
        | inl e ↦ never_before_itself y (subst (λ z. match_lt z y ≡ true) e (f r (inl refl)))
        | inr j ↦ never_both y r (up.0 r j) (f r (inl refl))
      ])
    ]

abbrev Same : List Match → List Match → Type 0
Same order R = (x : Match) → (In x (take (length R) order) → In x R)
    × (In x R → In x (take (length R) order))

tail_in : (n y : Match) (ys : List Match) → (n ≡ y → ⊥) → In n (y ∷ ys) → In n ys
tail_in n y ys d (inl e) = absurd (d e)
tail_in n y ys d (inr i) = i

step : (y : Match) (ys R S : List Match) → length R ≡ suc (length S) → In y R
    → ((x : Match) → In x R → (x ≡ y) ⊎ In x S) → ((x : Match) → In x S → In x R) → Same ys S
    → Same (y ∷ ys) R
step y ys R S l own parts back more x =
    subst (λ n. (In x (take n (y ∷ ys)) → In x R) × (In x R → In x (take n (y ∷ ys)))) (sym l) (
      λ i. elim i as (λ _. In x R) [
        | inl e ↦ subst (λ z. In z R) (sym e) own
        | inr j ↦ back x
            ((more x).0 j)
      ],
      λ i. elim (parts x i) as (λ _. (x ≡ y) ⊎ In x (take (length S) ys))
          [ inl e ↦ inl e | inr j ↦ inr ((more x).1 j) ],
    )

pub prefix_is : (order R : List Match) → Rising order → Distinct R
    → ((n : Match) → In n R → In n order) → IsFront order R → Same order R
prefix_is [] [] up d a c x = (λ i. i, λ i. i)
prefix_is [] (r ∷ rs) up d a c x = elim (a r (inl refl)) [ ]
prefix_is (y ∷ ys) [] up d a c x = (λ i. i, λ i. i)
prefix_is (y ∷ ys) (r ∷ rs) up d a c x =
    let own : In y (r ∷ rs) = first_is_in y ys r rs up a c in
    let w = around y (r ∷ rs) own in
    let d' : Distinct (w.us ++ y ∷ w.vs) = subst Distinct w.is d in
    let parts : (x : Match) → In x (r ∷ rs) → (x ≡ y) ⊎ In x (w.us ++ w.vs) =
    λ x i. in_around x y w.us w.vs (subst (λ z. In x z) w.is i) in
    let back : (x : Match) → In x (w.us ++ w.vs) → In x (r ∷ rs) =
    λ x i. subst (λ z. In x z) (sym w.is) (around_in x y w.us w.vs i) in
    step y ys (r ∷ rs) (w.us ++ w.vs) (ap length w.is ∙ length_around y w.us w.vs) own parts back
    (prefix_is ys (w.us ++ w.vs) up.1 (distinct_rest y w.us w.vs d')
    (λ n i. tail_in n y ys (not_again n y w.us w.vs d' i) (a n (back n i)))
    (λ m i. elim (c m (inr i)) as (λ _. In m (w.us ++ w.vs)
    ⊎ ((n : Match) → In n (w.us ++ w.vs) → match_lt n m ≡ true)) [
      | inl j ↦ elim (parts m j) as (λ _. In m (w.us ++ w.vs)
          ⊎ ((n : Match) → In n (w.us ++ w.vs) → match_lt n m ≡ true)) [
            | inl e ↦ absurd (never_before_itself y (subst (λ z. match_lt y z ≡ true) e (up.0 m i)))
            | inr k ↦ inl k
          ]
      | inr f ↦ inr (λ n k. f n (back n k))
    ])) x

-- what is behind the first n
pub in-drop_or_take : (x : Match) (n : ℕ) (xs : List Match) → In x xs
    → In x (take n xs) ⊎ In x (drop n xs)
in-drop_or_take x zero xs i = inr i
in-drop_or_take x (suc n) [] i = elim i [ ]
in-drop_or_take x (suc n) (y ∷ ys) (inl e) = inl (inl e)
in-drop_or_take x (suc n) (y ∷ ys) (inr i) =
    elim (in-drop_or_take x n ys i) as (λ _. In x (take (suc n) (y ∷ ys)) ⊎ In x (drop n ys))
    [ inl j ↦ inl (inr j) | inr j ↦ inr j ]

pub in_drop : (x : Match) (n : ℕ) (xs : List Match) → In x (drop n xs) → In x xs
in_drop x zero xs i = i
in_drop x (suc n) [] i = i
in_drop x (suc n) (y ∷ ys) i = inr (in_drop x n ys i)

pub take_before_drop : (x y : Match) (n : ℕ) (xs : List Match) → Rising xs → In x (take n xs)
    → In y (drop n xs) → match_lt x y ≡ true
take_before_drop x y zero xs up i j = elim i [ ]
take_before_drop x y (suc n) [] up i j = elim i [ ]
take_before_drop x y (suc n) (z ∷ zs) up (inl e) j =
    subst (λ w. match_lt w y ≡ true) (sym e) (up.0 y (in_drop y n zs j))
take_before_drop x y (suc n) (z ∷ zs) up (inr i) j = take_before_drop x y n zs up.1 i j

pub rising_drop : (n : ℕ) (xs : List Match) → Rising xs → Rising (drop n xs)
rising_drop zero xs up = up
rising_drop (suc n) [] up = up
rising_drop (suc n) (x ∷ xs) up = rising_drop n xs up.1

pub take_of_append : (first : List Match) (rest : List Match) (n : ℕ) → length first ≡ n
    → take n (first ++ rest) ≡ first
take_of_append [] rest zero e = refl
take_of_append [] rest (suc n) e = absurd (omega arith)
take_of_append (x ∷ first) rest zero e = absurd (omega arith)
take_of_append (x ∷ first) rest (suc n) e =
    ap (λ zs. x ∷ zs) (take_of_append first rest n (omega arith))

pub in_take_more : (x : Match) (n k : ℕ) (xs : List Match) → n ≤ k → In x (take n xs)
    → In x (take k xs)
in_take_more x zero k xs h i = elim i [ ]
in_take_more x (suc n) zero xs h i = absurd (omega arith)
in_take_more x (suc n) (suc k) [] h i = i
in_take_more x (suc n) (suc k) (y ∷ ys) h (inl e) = inl e
in_take_more x (suc n) (suc k) (y ∷ ys) h (inr i) = inr (in_take_more x n k ys (omega arith) i)
