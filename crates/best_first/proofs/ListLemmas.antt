-- Members and counts.
use Rattle.std.proofs.Common.{◌≡◌, ◌≤◌, ◌+◌, ℕ, suc, Bool, true, false, cond, ◌⊎◌, inl, inr, List}
use Rattle.std.proofs.Common.{[], ◌∷◌, length, refl, sym, ap, subst, arith}
use Rattle.std.specs.Ordering.{is_lt}
use Rattle.sg_base.specs.Lists.{In, Pairs}
use Rattle.sg_base.specs.Ranking.{put_in}
use Rattle.path_desk.specs.Desks.{but_last, last_of}
use Rattle.path_desk.specs.Entries.{Queued, entry_cmp}
use Rattle.path_desk.proofs.OrderLemmas.{entry_lt}
use Rattle.best_first.specs.Lists.{passing}

one_more : (b : Bool) (n : ℕ) → b ≡ true → 1 ≤ cond b 1 0 + n
one_more true n e = omega arith
one_more false n e = cc

pub passing-in : {X : Type 0} (p : X → Bool) (x : X) (xs : List X) → In x xs → p x ≡ true
    → 1 ≤ passing p xs
passing-in p x [] h e = elim h [ ]
passing-in p x (y ∷ ys) (inl h) e = one_more (p y) (passing p ys) (subst (λ z. p z ≡ true) h e)
passing-in p x (y ∷ ys) (inr h) e = let k = passing-in p x ys h e in omega arith

-- putting in

in_put_at : (b : Bool) (e x y : Queued) (ys : List Queued)
    → (In e (put_in entry_cmp x ys) → (e ≡ x) ⊎ In e ys)
    → In e (cond b (y ∷ put_in entry_cmp x ys) (x ∷ (y ∷ ys))) → (e ≡ x) ⊎ ((e ≡ y) ⊎ In e ys)
in_put_at true e x y ys more (inl h) = inr (inl h)
in_put_at true e x y ys more (inr h) =
    elim (more h) as (λ _. (e ≡ x) ⊎ ((e ≡ y) ⊎ In e ys)) [ inl k ↦ inl k | inr k ↦ inr (inr k) ]
in_put_at false e x y ys more h = h

pub in_put : (e x : Queued) (ys : List Queued) → In e (put_in entry_cmp x ys) → (e ≡ x) ⊎ In e ys
in_put e x [] h = h
in_put e x (y ∷ ys) h = in_put_at (entry_lt y x) e x y ys (in_put e x ys) h

passing_put_at : (b : Bool) (c : Queued → Bool) (x y : Queued) (ys : List Queued)
    → passing c (put_in entry_cmp x ys) ≡ cond (c x) 1 0 + passing c ys
    → passing c (cond b (y ∷ put_in entry_cmp x ys) (x ∷ (y ∷ ys)))
    ≡ cond (c x) 1 0 + (cond (c y) 1 0 + passing c ys)
passing_put_at true c x y ys e = omega arith
passing_put_at false c x y ys e = refl

pub passing-put : (c : Queued → Bool) (x : Queued) (ys : List Queued)
    → passing c (put_in entry_cmp x ys) ≡ cond (c x) 1 0 + passing c ys
passing-put c x [] = refl
passing-put c x (y ∷ ys) = passing_put_at (entry_lt y x) c x y ys (passing-put c x ys)

abbrev pub Rising : List Queued → Type 0
Rising = Pairs (λ a b. is_lt (entry_cmp a b) ≡ true)

-- x is before what it isn't behind
abbrev pub IsApart : Queued → List Queued → Type 0
IsApart x ys = (y : Queued) → In y ys → entry_lt y x ≡ false → entry_lt x y ≡ true

rising_put_at : (b : Bool) (x y : Queued) (ys : List Queued) → entry_lt y x ≡ b
    → (below : (a b c : Queued) → entry_lt a b ≡ true → entry_lt b c ≡ true → entry_lt a c ≡ true)
    → Rising (y ∷ ys) → (entry_lt y x ≡ false → entry_lt x y ≡ true)
    → Rising (put_in entry_cmp x ys)
    → Rising (cond b (y ∷ put_in entry_cmp x ys) (x ∷ (y ∷ ys)))
rising_put_at true x y ys is below r apart h = (
  λ e i. elim (in_put e x ys i) as (λ _. entry_lt y e ≡ true)
      [ inl k ↦ subst (λ z. entry_lt y z ≡ true) (sym k) is | inr k ↦ r.0 e k ],
  h,
)
rising_put_at false x y ys is below r apart h =
    let first : entry_lt x y ≡ true = apart is in (
      λ e i. elim i as (λ _. entry_lt x e ≡ true) [
        | inl k ↦ subst (λ z. entry_lt x z ≡ true) (sym k) first
        | inr k ↦ below x y e first
            (r.0 e k)
      ],
      r,
    )

pub rising-put : (below : (a b c : Queued) → entry_lt a b ≡ true → entry_lt b c ≡ true
    → entry_lt a c ≡ true) (x : Queued) (ys : List Queued) → Rising ys → IsApart x ys
    → Rising (put_in entry_cmp x ys)
rising-put below x [] r a = (λ e i. elim i [ ], tt)
rising-put below x (y ∷ ys) r a =
    rising_put_at (entry_lt y x) x y ys refl below r (a y (inl refl))
    (rising-put below x ys r.1 (λ z i. a z (inr i)))

-- all but the last

pub passing-last : {X : Type 0} (c : X → Bool) (x : X) (xs : List X)
    → passing c (x ∷ xs) ≡ passing c (but_last x xs) + cond (c (last_of x xs)) 1 0
passing-last c x [] = omega arith
passing-last c x (y ∷ ys) = let e = passing-last c y ys in omega arith

pub in_but_last : {X : Type 0} (e x : X) (xs : List X) → In e (but_last x xs) → In e (x ∷ xs)
in_but_last e x [] h = elim h [ ]
in_but_last e x (y ∷ ys) (inl h) = inl h
in_but_last e x (y ∷ ys) (inr h) = inr (in_but_last e y ys h)

pub in_last : {X : Type 0} (x : X) (xs : List X) → In (last_of x xs) (x ∷ xs)
in_last x [] = inl refl
in_last x (y ∷ ys) = inr (in_last y ys)

pub length-but_last : {X : Type 0} (x : X) (xs : List X) → length (but_last x xs) ≡ length xs
length-but_last x [] = refl
length-but_last x (y ∷ ys) = ap suc (length-but_last y ys)

pub pairs-but_last : {X : Type 0} (R : X → X → Type 0) (x : X) (xs : List X) → Pairs R (x ∷ xs)
    → Pairs R (but_last x xs)
pairs-but_last R x [] r = tt
pairs-but_last R x (y ∷ ys) r = (λ e i. r.0 e (in_but_last e y ys i), pairs-but_last R y ys r.1)

pub before_last : {X : Type 0} (R : X → X → Type 0) (e x : X) (xs : List X) → Pairs R (x ∷ xs)
    → In e (but_last x xs) → R e (last_of x xs)
before_last R e x [] r h = elim h [ ]
before_last R e x (y ∷ ys) r (inl h) =
    subst (λ z. R z (last_of y ys)) (sym h) (r.0 (last_of y ys) (in_last y ys))
before_last R e x (y ∷ ys) r (inr h) = before_last R e y ys r.1 h
