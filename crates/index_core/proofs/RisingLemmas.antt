-- Numbers that rise, and two lists of them with the same members.
use Rattle.std.proofs.Common.{◌≡◌, ◌≤◌, ◌<◌, ◌+◌, ℕ, Bool, true, false, ◌&&◌, ◌||◌, cond}
use Rattle.std.proofs.Common.{nat_eq, List, [], ◌∷◌, refl, sym, ap, ◌∙◌, subst, arith}
use Rattle.std.specs.Prelude.{filter, nat_lt}
use Rattle.std.specs.List.{AllByRecursion}
use Rattle.std.proofs.lemmas.Bool.Decides.{nat_tests}
use Rattle.index_core.specs.Histories.{is_among}
use Rattle.index_core.specs.HeldGenerations.{RisesFrom}

pub same_number : (m n : ℕ) → nat_eq m n ≡ true → m ≡ n
same_number m n e = grind (arith, nat_tests)

pub itself : (n : ℕ) → nat_eq n n ≡ true
itself n = grind (arith, nat_tests)

-- ---- members

no_and : (b : Bool) → (b && false) ≡ false
no_and true = refl
no_and false = refl

among-filter_at : (a b : Bool) (p : ℕ → Bool) (g x : ℕ) (xs : List ℕ) → nat_eq g x ≡ a
    → p x ≡ b → is_among g (filter p xs) ≡ (is_among g xs && p g)
    → is_among g (cond b (x ∷ filter p xs) (filter p xs)) ≡ ((a || is_among g xs) && p g)
among-filter_at true true p g x xs is passes more =
    let here : p g ≡ true = ap p (same_number g x is) ∙ passes in rw (is, here) refl
among-filter_at true false p g x xs is passes more =
    let here : p g ≡ false = ap p (same_number g x is) ∙ passes in
    more ∙ ap (λ (b : Bool). is_among g xs && b) here ∙ no_and (is_among g xs) ∙ sym here
among-filter_at false true p g x xs is passes more = rw is more
among-filter_at false false p g x xs is passes more = more

pub among-filter : (p : ℕ → Bool) (g : ℕ) (xs : List ℕ)
    → is_among g (filter p xs) ≡ (is_among g xs && p g)
among-filter p g [] = refl
among-filter p g (x ∷ xs) =
    among-filter_at (nat_eq g x) (p x) p g x xs refl refl (among-filter p g xs)

-- what holds of all holds of a member
pub all_among : (P : ℕ → Type 0) (g : ℕ) (gs : List ℕ) → AllByRecursion P gs
    → is_among g gs ≡ true → P g
all_among P g [] all is = let no : false ≡ true = is in absurd cc
all_among P g (x ∷ xs) all is = by_test (nat_eq g x) refl (λ h. all_among P g xs all.1 h)
  where
    by_test : (b : Bool) → nat_eq g x ≡ b → (is_among g xs ≡ true → P g) → P g
    by_test true e again = subst P (sym (same_number g x e)) all.0
    by_test false e again = again (ap (λ (b : Bool). b || is_among g xs) (sym e) ∙ is)

-- ---- rising lists

pub rises_less : (m n : ℕ) (xs : List ℕ) → m ≤ n → RisesFrom n xs → RisesFrom m xs
rises_less m n [] h up = tt
rises_less m n (x ∷ xs) h up = (omega (arith, h, up.0), up.1)

rises-filter_at : (n x : ℕ) (xs : List ℕ) (b : Bool) → n ≤ x → RisesFrom (x + 1) xs
    → RisesFrom n (cond b (x ∷ xs) xs)
rises-filter_at n x xs true h up = (h, up)
rises-filter_at n x xs false h up = rises_less n (x + 1) xs (omega (arith, h)) up

pub rises-filter : (p : ℕ → Bool) (n : ℕ) (xs : List ℕ) → RisesFrom n xs
    → RisesFrom n (filter p xs)
rises-filter p n [] up = tt
rises-filter p n (x ∷ xs) up =
    rises-filter_at n x (filter p xs) (p x) up.0 (rises-filter p (x + 1) xs up.1)

-- what is below all isn't among them
pub among-below : (i n : ℕ) (xs : List ℕ) → i < n → RisesFrom n xs → is_among i xs ≡ false
among-below i n [] h up = refl
among-below i n (x ∷ xs) h up =
    let other : nat_eq i x ≡ false = let less = up.0 in grind (arith, nat_tests) in
    rw other (among-below i (x + 1) xs (omega (arith, h, up.0)) up.1)

among_head : (i : ℕ) (xs : List ℕ) → is_among i (i ∷ xs) ≡ true
among_head i xs = rw (itself i) refl

same_head : (m n x y : ℕ) (xs ys : List ℕ) → RisesFrom m (x ∷ xs) → RisesFrom n (y ∷ ys)
    → ((i : ℕ) → is_among i (x ∷ xs) ≡ is_among i (y ∷ ys)) → x ≤ y
same_head m n x y xs ys p q same = by_test (nat_lt y x) refl
  where
    by_test : (b : Bool) → nat_lt y x ≡ b → x ≤ y
    by_test false is = grind (arith, nat_tests)
    by_test true is =
        let less : y < x = grind (arith, nat_tests) in
        let up : RisesFrom x (x ∷ xs) = (omega arith, p.1) in
        absurd (let no : false ≡ true =
        sym (among-below y x (x ∷ xs) less up) ∙ same y ∙ among_head y ys in cc)

same_tail : (x i : ℕ) (xs ys : List ℕ) → RisesFrom (x + 1) xs → RisesFrom (x + 1) ys
    → is_among i (x ∷ xs) ≡ is_among i (x ∷ ys) → is_among i xs ≡ is_among i ys
same_tail x i xs ys p q same = by_test (nat_eq i x) refl
  where
    by_test : (b : Bool) → nat_eq i x ≡ b → is_among i xs ≡ is_among i ys
    by_test true is =
        let less : i < x + 1 = grind (arith, nat_tests) in
        among-below i (x + 1) xs less p ∙ sym (among-below i (x + 1) ys less q)
    by_test false is = rw is at same

-- rising lists with the same members are one
pub same_rising : (m n : ℕ) (xs ys : List ℕ) → RisesFrom m xs → RisesFrom n ys
    → ((i : ℕ) → is_among i xs ≡ is_among i ys) → xs ≡ ys
same_rising m n [] [] p q same = refl
same_rising m n [] (y ∷ ys) p q same =
    let no : false ≡ true = same y ∙ among_head y ys in cc
same_rising m n (x ∷ xs) [] p q same =
    let no : true ≡ false = sym (among_head x xs) ∙ same x in cc
same_rising m n (x ∷ xs) (y ∷ ys) p q same =
    let less = same_head m n x y xs ys p q same in
    let more = same_head n m y x ys xs q p (λ i. sym (same i)) in
    let one : y ≡ x = omega (arith, less, more) in
    let q' : RisesFrom (x + 1) ys = rw one at q.1 in
    let same' : (i : ℕ) → is_among i (x ∷ xs) ≡ is_among i (x ∷ ys) = rw one at same in
    ap (λ (z : ℕ). z ∷ xs) (sym one)
    ∙ ap (λ (zs : List ℕ). y ∷ zs)
    (same_rising (x + 1) (x + 1) xs ys p.1 q' (λ i. same_tail x i xs ys p.1 q' (same' i)))
