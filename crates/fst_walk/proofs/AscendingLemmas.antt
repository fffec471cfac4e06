-- Ascending lists of byte strings, and their first item under two tests.
use Rattle.fst_walk.specs.Starts.{put_context}
use Rattle.sg_base.proofs.ByteStringLemmas.{Byte, byte, same, less, more}
use Rattle.sg_base.specs.ByteStrings.{is_less}
use Rattle.sg_base.specs.Lists.{In}
use Rattle.std.proofs.Common.{◌≡◌, ℕ, Bool, true, false, cond, ◌⊎◌, inl, inr, filter, List, [], ◌∷◌}
use Rattle.std.proofs.Common.{refl, sym, ap, ◌∙◌, subst, arith, eqb, eq-eqb, ltb, Some}
use Rattle.std.proofs.lemmas.Bool.{ne_eqb, lt-ltb}
use Rattle.std.specs.Cmp.Lexicographic.{bytes_decides}
use Rattle.std.specs.Prelude.{bytes_eq}
use Rattle.fst_walk.proofs.BoolLemmas.{clash, either_way}
use Rattle.fst_walk.proofs.PositionLemmas.{left-less, left_trans, not_behind_itself}
use Rattle.fst_walk.proofs.ListLemmas.{In-filter, filter_same}

-- ascending, each once
abbrev pub Ascends : List (List ℕ) → Type 0
Ascends [] = Unit {0}
Ascends (x ∷ xs) = ((y : List ℕ) → In y xs → is_less x y ≡ true) × Ascends xs

ascends_at : (p : List ℕ → Bool) (x : List ℕ) (xs : List (List ℕ)) (b : Bool)
    → ((y : List ℕ) → In y xs → is_less x y ≡ true) → Ascends (filter p xs)
    → Ascends (cond b (x ∷ filter p xs) (filter p xs))
ascends_at p x xs true a r = (λ y h. a y (In-filter p y xs h).0, r)
ascends_at p x xs false a r = r

pub Ascends-filter : (p : List ℕ → Bool) (xs : List (List ℕ)) → Ascends xs → Ascends (filter p xs)
Ascends-filter p [] a = tt
Ascends-filter p (x ∷ xs) a = ascends_at p x xs (p x) a.0 (Ascends-filter p xs a.1)

pub less_itself : (x : List ℕ) → is_less x x ≡ false
less_itself x = sym (left-less x x) ∙ not_behind_itself x

pub less_trans : (x y z : List ℕ) → is_less x y ≡ true → is_less y z ≡ true → is_less x z ≡ true
less_trans x y z h k =
    sym (left-less x z) ∙ left_trans x y z (Some 0) (left-less x y ∙ h) (left-less y z ∙ k)

pub not_less_both : (x y : List ℕ) → is_less x y ≡ true → is_less y x ≡ true → ⊥
not_less_both x y h k = clash (sym (less_itself x) ∙ less_trans x y x h k)

other_by : (xs ys : List ℕ) (x y : ℕ) → Byte x y → (x ∷ xs ≡ y ∷ ys → ⊥)
    → ((xs ≡ ys → ⊥) → is_less xs ys ≡ false → is_less ys xs ≡ true)
    → cond (eqb y x) (is_less xs ys) (ltb x y) ≡ false
    → cond (eqb x y) (is_less ys xs) (ltb y x) ≡ true
other_by xs ys x y (same p e) n ih h =
    rw (eq-eqb x y e) (ih (λ k. n (ap (λ z. z ∷ xs) e ∙ ap (λ zs. y ∷ zs) k)) (rw p at h))
other_by xs ys x y (less p r l) n ih h = absurd (let z = rw (p, r) at h in clash (sym z))
other_by xs ys x y (more p r l) n ih h =
    rw (ne_eqb x y (λ e. omega (arith, e, l)), lt-ltb y x l) refl

pub other_way : (x y : List ℕ) → (x ≡ y → ⊥) → is_less x y ≡ false → is_less y x ≡ true
other_way [] [] n h = absurd (n refl)
other_way [] (y ∷ ys) n h = absurd (clash (sym h))
other_way (x ∷ xs) [] n h = refl
other_way (x ∷ xs) (y ∷ ys) n h = other_by xs ys x y (byte x y) n (other_way xs ys) h

later : (c x : List ℕ) (xs : List (List ℕ)) (z : List ℕ) → (z ≡ c) ⊎ In z xs
    → (z ≡ c) ⊎ In z (x ∷ xs)
later c x xs z (inl e) = inl e
later c x xs z (inr h) = inr (inr h)

put_member_at : (c x : List ℕ) (xs : List (List ℕ)) (z : List ℕ) (b d : Bool)
    → (In z (put_context c xs) → (z ≡ c) ⊎ In z xs)
    → In z (cond b (x ∷ xs) (cond d (c ∷ (x ∷ xs)) (x ∷ put_context c xs)))
    → (z ≡ c) ⊎ In z (x ∷ xs)
put_member_at c x xs z true d ih h = inr h
put_member_at c x xs z false true ih (inl e) = inl e
put_member_at c x xs z false true ih (inr h) = inr h
put_member_at c x xs z false false ih (inl e) = inr (inl e)
put_member_at c x xs z false false ih (inr h) = later c x xs z (ih h)

pub In-put : (c : List ℕ) (xs : List (List ℕ)) (z : List ℕ) → In z (put_context c xs)
    → (z ≡ c) ⊎ In z xs
In-put c [] z (inl e) = inl e
In-put c [] z (inr h) = absurd h
In-put c (x ∷ xs) z h = put_member_at c x xs z (bytes_eq c x) (is_less c x) (In-put c xs z) h

same_bytes : (c x : List ℕ) → bytes_eq c x ≡ true → c ≡ x
same_bytes c x e = (bytes_decides c x).0 e

has_at : (c x : List ℕ) (xs : List (List ℕ)) (b d : Bool) → bytes_eq c x ≡ b
    → In c (put_context c xs)
    → In c (cond b (x ∷ xs) (cond d (c ∷ (x ∷ xs)) (x ∷ put_context c xs)))
has_at c x xs true d e ih = inl (same_bytes c x e)
has_at c x xs false true e ih = inl refl
has_at c x xs false false e ih = inr ih

pub put_has : (c : List ℕ) (xs : List (List ℕ)) → In c (put_context c xs)
put_has c [] = inl refl
put_has c (x ∷ xs) = has_at c x xs (bytes_eq c x) (is_less c x) refl (put_has c xs)

keep_at : (c x : List ℕ) (xs : List (List ℕ)) (z : List ℕ) (b d : Bool)
    → (In z xs → In z (put_context c xs)) → In z (x ∷ xs)
    → In z (cond b (x ∷ xs) (cond d (c ∷ (x ∷ xs)) (x ∷ put_context c xs)))
keep_at c x xs z true d ih h = h
keep_at c x xs z false true ih h = inr h
keep_at c x xs z false false ih (inl e) = inl e
keep_at c x xs z false false ih (inr h) = inr (ih h)

pub put_keeps : (c : List ℕ) (xs : List (List ℕ)) (z : List ℕ) → In z xs → In z (put_context c xs)
put_keeps c [] z h = absurd h
put_keeps c (x ∷ xs) z h = keep_at c x xs z (bytes_eq c x) (is_less c x) (put_keeps c xs z) h

not_same : (c x : List ℕ) → bytes_eq c x ≡ false → c ≡ x → ⊥
not_same c x e h = clash (sym e ∙ (bytes_decides c x).1 h)

above_first : (c x : List ℕ) (xs : List (List ℕ)) → is_less c x ≡ true
    → ((y : List ℕ) → In y xs → is_less x y ≡ true) → (y : List ℕ) → In y (x ∷ xs)
    → is_less c y ≡ true
above_first c x xs l a y (inl e) = subst (λ z. is_less c z ≡ true) (sym e) l
above_first c x xs l a y (inr h) = less_trans c x y l (a y h)

below_put : (c x : List ℕ) (xs : List (List ℕ)) → is_less x c ≡ true
    → ((y : List ℕ) → In y xs → is_less x y ≡ true) → (y : List ℕ) → (y ≡ c) ⊎ In y xs
    → is_less x y ≡ true
below_put c x xs l a y (inl e) = subst (λ z. is_less x z ≡ true) (sym e) l
below_put c x xs l a y (inr h) = a y h

put_ascends : (c x : List ℕ) (xs : List (List ℕ)) (b d : Bool) → bytes_eq c x ≡ b → is_less c x ≡ d
    → Ascends (x ∷ xs) → Ascends (put_context c xs)
    → Ascends (cond b (x ∷ xs) (cond d (c ∷ (x ∷ xs)) (x ∷ put_context c xs)))
put_ascends c x xs true d e f a r = a
put_ascends c x xs false true e f a r = (above_first c x xs f a.0, a)
put_ascends c x xs false false e f a r =
    (λ y h. below_put c x xs (other_way c x (not_same c x e) f) a.0 y (In-put c xs y h), r)

pub Ascends-put : (c : List ℕ) (xs : List (List ℕ)) → Ascends xs → Ascends (put_context c xs)
Ascends-put c [] a = (λ y h. absurd h, tt)
Ascends-put c (x ∷ xs) a = put_ascends c x xs (bytes_eq c x) (is_less c x) refl refl a
    (Ascends-put c xs a.1)

not_q : (b : Bool) → (b ≡ true → ⊥) → b ≡ false
not_q true f = absurd (f refl)
not_q false f = refl

after_first : (p q : List ℕ → Bool) (x : List ℕ) (zs : List (List ℕ)) (y : List ℕ)
    → is_less x y ≡ true
    → (y ≡ x) ⊎ (q y ≡ true) → q y ≡ true
after_first p q x zs y l (inl e) =
    absurd (clash (sym (less_itself x) ∙ subst (λ w. is_less x w ≡ true) e l))
after_first p q x zs y l (inr h) = h

skips : (p q : List ℕ → Bool) (x z : List ℕ) → is_less z x ≡ true
    → (q z ≡ true → (p z ≡ true) × (is_less x z ≡ true)) → (z ≡ x) ⊎ (q z ≡ true) → ⊥
skips p q x z l v (inl e) = clash (sym (less_itself x) ∙ subst (λ w. is_less w x ≡ true) e l)
skips p q x z l v (inr h) = not_less_both z x l (v h).1

first_by : (p q : List ℕ → Bool) (x z : List ℕ) (zs : List (List ℕ)) → Ascends (z ∷ zs)
    → In x (z ∷ zs)
    → p x ≡ true → ((y : List ℕ) → In y (z ∷ zs) → p y ≡ true → (y ≡ x) ⊎ (q y ≡ true))
    → ((y : List ℕ) → In y (z ∷ zs) → q y ≡ true → (p y ≡ true) × (is_less x y ≡ true))
    → (In x zs → p x ≡ true → ((y : List ℕ) → In y zs → p y ≡ true → (y ≡ x) ⊎ (q y ≡ true))
    → ((y : List ℕ) → In y zs → q y ≡ true → (p y ≡ true) × (is_less x y ≡ true))
    → filter p zs ≡ x ∷ filter q zs)
    → filter p (z ∷ zs) ≡ x ∷ filter q (z ∷ zs)
first_by p q x z zs a (inl e) t u v ih =
    let pz : p z ≡ true = ap p (sym e) ∙ t in
    let qz : q z ≡ false = not_q (q z)
    (λ k. clash (sym (less_itself x)
    ∙ subst (λ w. is_less x w ≡ true) (sym e) (v z (inl refl) k).1)) in
    let rest : filter p zs ≡ filter q zs = filter_same p q zs (λ y h. either_way (p y) (q y)
    (λ k. after_first p q x zs y (subst (λ w. is_less w y ≡ true) (sym e) (a.0 y h))
    (u y (inr h) k))
    (λ k. (v y (inr h) k).0)) in
    rw (pz, qz, rest) (ap (λ w. w ∷ filter q zs) (sym e))
first_by p q x z zs a (inr h) t u v ih =
    let l : is_less z x ≡ true = a.0 x h in
    let pz : p z ≡ false = not_q (p z) (λ k. skips p q x z l (v z (inl refl)) (u z (inl refl) k)) in
    let qz : q z ≡ false = not_q (q z) (λ k. skips p q x z l (v z (inl refl)) (inr k)) in
    rw (pz, qz) (ih h t (λ y k. u y (inr k)) (λ y k. v y (inr k)))

-- of an ascending list, those behind the first of some are the others of them
pub filter_first : (p q : List ℕ → Bool) (x : List ℕ) (xs : List (List ℕ)) → Ascends xs → In x xs
    → p x ≡ true → ((y : List ℕ) → In y xs → p y ≡ true → (y ≡ x) ⊎ (q y ≡ true))
    → ((y : List ℕ) → In y xs → q y ≡ true → (p y ≡ true) × (is_less x y ≡ true))
    → filter p xs ≡ x ∷ filter q xs
filter_first p q x [] a h t u v = absurd h
filter_first p q x (z ∷ zs) a h t u v = first_by p q x z zs a h t u v (filter_first p q x zs a.1)
