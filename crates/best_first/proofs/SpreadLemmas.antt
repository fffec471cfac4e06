-- Counting matching paths by the entries over them.
use Rattle.std.proofs.Common.{◌≡◌, ◌≤◌, ◌<◌, ◌+◌, ◌⊎◌, inl, inr, ℕ, zero, suc, Bool, true, false}
use Rattle.std.proofs.Common.{cond, nat_eq, not, ◌&&◌, List, [], ◌∷◌, length, refl, sym, ap, ◌∙◌}
use Rattle.std.proofs.Common.{arith}
use Rattle.std.specs.List.{filter}
use Rattle.std.proofs.lemmas.Bool.{and_from, eqb-true, ne_eqb, not-true}
use Rattle.std.proofs.lemmas.Bool.Decides.{nat_tests}
use Rattle.sg_base.specs.Lists.{In, Pairs}
use Rattle.sg_base.proofs.ListLemmas.{in-filter}
use Rattle.best_first.specs.Lists.{passing}
use Rattle.best_first.proofs.ListLemmas.{passing-in}

abbrev total : {X : Type 0} → (X → ℕ) → List X → ℕ
total f [] = 0
total f (x ∷ xs) = f x + total f xs

passing-total : {X : Type 0} (p : X → Bool) (xs : List X)
    → passing p xs ≡ total (λ x. cond (p x) 1 0) xs
passing-total p [] = refl
passing-total p (x ∷ xs) = ap (λ n. cond (p x) 1 0 + n) (passing-total p xs)

zeros : {X : Type 0} (xs : List X) → total (λ _. 0) xs ≡ 0
zeros [] = refl
zeros (x ∷ xs) = let e = zeros xs in omega arith

sums : {X : Type 0} (f g : X → ℕ) (xs : List X)
    → total (λ x. f x + g x) xs ≡ total f xs + total g xs
sums f g [] = refl
sums f g (x ∷ xs) = let e = sums f g xs in omega arith

tested : {E : Type 0} (p : Bool) (c : E → Bool) (es : List E)
    → total (λ e. cond (p && c e) 1 0) es ≡ cond p (total (λ e. cond (c e) 1 0) es) 0
tested true c es = refl
tested false c es = zeros es

-- pairs counted from either side
pub swapped : {M E : Type 0} (P : M → Bool) (c : M → E → Bool) (ms : List M) (es : List E)
    → total (λ e. total (λ m. cond (P m && c m e) 1 0) ms) es
    ≡ total (λ m. cond (P m) (total (λ e. cond (c m e) 1 0) es) 0) ms
swapped P c [] es = zeros es
swapped P c (m ∷ ms) es =
    sums (λ e. cond (P m && c m e) 1 0) (λ e. total (λ m'. cond (P m' && c m' e) 1 0) ms) es
    ∙ ap (λ n. n + total (λ e. total (λ m'. cond (P m' && c m' e) 1 0) ms) es)
    (tested (P m) (c m) es)
    ∙ ap (λ n. cond (P m) (total (λ e. cond (c m e) 1 0) es) 0 + n) (swapped P c ms es)

least : {E : Type 0} (f : E → ℕ) (es : List E) → ((e : E) → In e es → 1 ≤ f e)
    → length es ≤ total f es
least f [] a = omega arith
least f (e ∷ es) a =
    let h = least f es (λ d i. a d (inr i)) in
    let k : 1 ≤ f e = a e (inl refl) in
    omega arith

most_at : (p : Bool) (n : ℕ) → n ≤ 1 → cond p n 0 ≤ cond p 1 0
most_at true n h = h
most_at false n h = omega arith

most : {M : Type 0} (P : M → Bool) (f : M → ℕ) (ms : List M) → ((m : M) → In m ms → f m ≤ 1)
    → total (λ m. cond (P m) (f m) 0) ms ≤ total (λ m. cond (P m) 1 0) ms
most P f [] a = omega arith
most P f (m ∷ ms) a =
    let h = most P f ms (λ d i. a d (inr i)) in
    let k = most_at (P m) (f m) (a m (inl refl)) in
    omega arith

-- entries that share no path, each with a path that passes, are at most as many as the paths that
-- pass
pub spread : {M E : Type 0} (P : M → Bool) (c : M → E → Bool) (ms : List M) (es : List E)
    → ((m : M) → In m ms → passing (c m) es ≤ 1)
    → ((e : E) → In e es → (m : M) × In m ms × (P m ≡ true) × (c m e ≡ true))
    → length es ≤ passing P ms
spread {M} {E} P c ms es one some =
    let l = least (λ e. total (λ m. cond (P m && c m e) 1 0) ms) es
    (λ e i.
    let w = some e i in
    let h = passing-in (λ m. P m && c m e) w.0 ms w.1 (and_from (P w.0) (c w.0 e) w.2 w.3) in
    let t = passing-total (λ m. P m && c m e) ms in
    omega (arith, h, t)) in
    let h = most P (λ m. total (λ e. cond (c m e) 1 0) es) ms
    (λ m i. let k = one m i in let t = passing-total (c m) es in omega (arith, k, t)) in
    let e = swapped P c ms es in
    let t = passing-total P ms in
    omega arith

-- different numbers below a bound

kept_all_at : (b : Bool) (n x : ℕ) (xs : List ℕ) → nat_eq x n ≡ b → b ≡ false
    → length xs ≡ length (filter (λ m. not (nat_eq m n)) xs)
    → length (x ∷ xs) ≡ length (cond (not b) (x ∷ filter (λ m. not (nat_eq m n)) xs)
    (filter (λ m. not (nat_eq m n)) xs))
kept_all_at true n x xs e f h = cc
kept_all_at false n x xs e f h = omega (arith, h)

kept_all : (n : ℕ) (xs : List ℕ) → ((y : ℕ) → In y xs → nat_eq y n ≡ false)
    → length xs ≡ length (filter (λ m. not (nat_eq m n)) xs)
kept_all n [] f = refl
kept_all n (x ∷ xs) f = kept_all_at (nat_eq x n) n x xs refl (f x (inl refl))
    (kept_all n xs (λ y i. f y (inr i)))

case_of : (b : Bool) (n x : ℕ) (xs : List ℕ) → nat_eq x n ≡ b → ((y : ℕ) → In y xs → x ≡ y → ⊥)
    → length xs ≡ length (filter (λ m. not (nat_eq m n)) xs) ⊎ (b ≡ false)
case_of true n x xs e d = inl (kept_all n xs
    (λ y i. ne_eqb y n (λ s. d y i (eqb-true x n e ∙ sym s))))
case_of false n x xs e d = inr refl

without_at : (b : Bool) (n x : ℕ) (xs : List ℕ)
    → length xs ≤ length (filter (λ m. not (nat_eq m n)) xs) + 1
    → length xs ≡ length (filter (λ m. not (nat_eq m n)) xs) ⊎ (b ≡ false)
    → length (x ∷ xs) ≤ length (cond (not b) (x ∷ filter (λ m. not (nat_eq m n)) xs)
    (filter (λ m. not (nat_eq m n)) xs)) + 1
without_at true n x xs h (inl same) = omega (arith, same)
without_at true n x xs h (inr never) = cc
without_at false n x xs h g = omega (arith, h)

without_one : (n : ℕ) (xs : List ℕ) → Pairs (λ a b. a ≡ b → ⊥) xs
    → length xs ≤ length (filter (λ m. not (nat_eq m n)) xs) + 1
without_one n [] d = omega arith
without_one n (x ∷ xs) d = without_at (nat_eq x n) n x xs (without_one n xs d.1)
    (case_of (nat_eq x n) n x xs refl d.0)

pairs_filter_at : {X : Type 0} (p : X → Bool) (R S : X → X → Type 0) (b : Bool) (x : X)
    (xs : List X) → p x ≡ b → ((y : X) → In y xs → R x y)
    → ((y : X) → In y xs → p x ≡ true → p y ≡ true → R x y → S x y)
    → Pairs S (filter p xs) → Pairs S (cond b (x ∷ filter p xs) (filter p xs))
pairs_filter_at p R S true x xs is r f h =
    (λ y i. let k = in-filter p y xs i in f y k.0 is k.1 (r y k.0), h)
pairs_filter_at p R S false x xs is r f h = h

-- pairs of those that pass
pub pairs-filter : {X : Type 0} (p : X → Bool) (R S : X → X → Type 0) (xs : List X) → Pairs R xs
    → ((x y : X) → In x xs → In y xs → p x ≡ true → p y ≡ true → R x y → S x y)
    → Pairs S (filter p xs)
pairs-filter p R S [] r f = tt
pairs-filter p R S (x ∷ xs) r f =
    pairs_filter_at p R S (p x) x xs refl r.0 (λ y i. f x y (inl refl) (inr i))
    (pairs-filter p R S xs r.1 (λ y z i j. f y z (inr i) (inr j)))

below_next : (n y : ℕ) → y < suc n → nat_eq y n ≡ false → y < n
below_next n y h e = grind (arith, nat_tests)

-- different numbers below a bound are at most so many
pub distinct_below : (n : ℕ) (xs : List ℕ) → Pairs (λ a b. a ≡ b → ⊥) xs
    → ((x : ℕ) → In x xs → x < n) → length xs ≤ n
distinct_below zero [] d f = omega arith
distinct_below zero (x ∷ xs) d f = absurd (let h = f x (inl refl) in omega (arith, h))
distinct_below (suc n) xs d f =
    let p : ℕ → Bool = λ m. not (nat_eq m n) in
    let l = without_one n xs d in
    let r = distinct_below n (filter (λ m. not (nat_eq m n)) xs)
    (pairs-filter (λ m. not (nat_eq m n)) (λ a b. a ≡ b → ⊥) (λ a b. a ≡ b → ⊥) xs d
    (λ x y i j p q h. h))
    (λ x i. let k = in-filter (λ m. not (nat_eq m n)) x xs i in
    below_next n x (f x k.0) (not-true (nat_eq x n) k.1)) in
    omega (arith, l, r)

parts_at : {X : Type 0} (p : X → Bool) (b : Bool) (x : X) (xs : List X)
    → length xs ≡ length (filter p xs) + length (filter (λ y. not (p y)) xs)
    → length (x ∷ xs) ≡ length (cond b (x ∷ filter p xs) (filter p xs)) + length
    (cond (not b) (x ∷ filter (λ y. not (p y)) xs) (filter (λ y. not (p y)) xs))
parts_at p true x xs h = omega (arith, h)
parts_at p false x xs h = omega (arith, h)

-- those that pass and those that don't
pub length-parts : {X : Type 0} (p : X → Bool) (xs : List X)
    → length xs ≡ length (filter p xs) + length (filter (λ y. not (p y)) xs)
length-parts p [] = refl
length-parts p (x ∷ xs) = parts_at p (p x) x xs (length-parts p xs)

fewer_at : {X : Type 0} (p c : X → Bool) (b : Bool) (x : X) (xs : List X)
    → passing c (filter p xs) ≤ passing c xs
    → passing c (cond b (x ∷ filter p xs) (filter p xs)) ≤ cond (c x) 1 0 + passing c xs
fewer_at p c true x xs h = omega (arith, h)
fewer_at p c false x xs h = omega (arith, h)

pub passing-filter : {X : Type 0} (p c : X → Bool) (xs : List X)
    → passing c (filter p xs) ≤ passing c xs
passing-filter p c [] = omega arith
passing-filter p c (x ∷ xs) = fewer_at p c (p x) x xs (passing-filter p c xs)
