-- Members of filtered lists, and sums.
use Rattle.fst_walk.specs.Starts.{total}
use Rattle.sg_base.specs.Lists.{In}
use Rattle.std.proofs.Common.{◌≡◌, ◌≤◌, ◌+◌, ◌*◌, ℕ, Bool, true, false, cond, inl, inr, filter}
use Rattle.std.proofs.Common.{List, [], ◌∷◌, refl, sym, ap, ◌∙◌, subst, arith}
use Rattle.fst_walk.proofs.BoolLemmas.{clash}

kept_at : {X : Type 0} (p : X → Bool) (x y : X) (ys : List X) (b : Bool) → p y ≡ b
    → (In x (filter p ys) → In x ys × (p x ≡ true)) → In x (cond b (y ∷ filter p ys) (filter p ys))
    → In x (y ∷ ys) × (p x ≡ true)
kept_at p x y ys true is ih (inl e) = (inl e, ap p e ∙ is)
kept_at p x y ys true is ih (inr h) = let k = ih h in (inr k.0, k.1)
kept_at p x y ys false is ih h = let k = ih h in (inr k.0, k.1)

pub In-filter : {X : Type 0} (p : X → Bool) (x : X) (xs : List X) → In x (filter p xs)
    → In x xs × (p x ≡ true)
In-filter p x [] h = absurd h
In-filter p x (y ∷ ys) h = kept_at p x y ys (p y) refl (In-filter p x ys) h

keeps_at : {X : Type 0} (p : X → Bool) (x y : X) (ys : List X) (b : Bool) → p y ≡ b → p x ≡ true
    → (In x ys → In x (filter p ys)) → In x (y ∷ ys) → In x (cond b (y ∷ filter p ys) (filter p ys))
keeps_at p x y ys true is t ih (inl e) = inl e
keeps_at p x y ys true is t ih (inr h) = inr (ih h)
keeps_at p x y ys false is t ih (inl e) = absurd (clash (sym is ∙ ap p (sym e) ∙ t))
keeps_at p x y ys false is t ih (inr h) = ih h

pub filter_keeps : {X : Type 0} (p : X → Bool) (x : X) (xs : List X) → In x xs → p x ≡ true
    → In x (filter p xs)
filter_keeps p x [] h t = absurd h
filter_keeps p x (y ∷ ys) h t = keeps_at p x y ys (p y) refl t (λ k. filter_keeps p x ys k t) h

pub filter_same : {X : Type 0} (p q : X → Bool) (xs : List X) → ((x : X) → In x xs → p x ≡ q x)
    → filter p xs ≡ filter q xs
filter_same p q [] h = refl
filter_same p q (x ∷ xs) h =
    rw (h x (inl refl), filter_same p q xs (λ y k. h y (inr k))) refl

-- sums
pub total_less : {X : Type 0} (f g : X → ℕ) (xs : List X) → ((x : X) → In x xs → f x ≤ g x)
    → total f xs ≤ total g xs
total_less f g [] h = omega arith
total_less f g (x ∷ xs) h =
    let a = h x (inl refl) in let b = total_less f g xs (λ y k. h y (inr k)) in omega (arith, a, b)

pub total_drop : {X : Type 0} (f g : X → ℕ) (n : ℕ) (x : X) (xs : List X) → In x xs
    → ((y : X) → In y xs → f y ≤ g y) → f x + n ≤ g x → total f xs + n ≤ total g xs
total_drop f g n x [] h all d = absurd h
total_drop f g n x (z ∷ zs) (inl e) all d =
    let a = total_less f g zs (λ y k. all y (inr k)) in
    let b = subst (λ w. f w + n ≤ g w) e d in
    omega (arith, a, b)
total_drop f g n x (z ∷ zs) (inr h) all d =
    let a = total_drop f g n x zs h (λ y k. all y (inr k)) d in
    let b = all z (inl refl) in
    omega (arith, a, b)

mul_zero : (n : ℕ) → 0 ≡ n * 0
mul_zero n = omega arith

distrib : (n a b : ℕ) → n * (a + b) ≡ n * a + n * b
distrib n a b = grind arith

pub total-times : {X : Type 0} (f : X → ℕ) (n : ℕ) (xs : List X)
    → total (λ (x : X). n * f x) xs ≡ n * total f xs
total-times f n [] = mul_zero n
total-times f n (x ∷ xs) = ap (λ z. n * f x + z) (total-times f n xs)
    ∙ sym (distrib n (f x) (total f xs))
