-- Lists, and what holds of each of their items.
use Rattle.std.proofs.Common.{◌≡◌, ◌≤◌, ◌<◌, ◌+◌, ℕ, zero, suc, Bool, true, false, cond, nat_eq}
use Rattle.std.proofs.Common.{not, ◌&&◌, ◌||◌, List, [], ◌∷◌, ◌++◌, length, map, take, drop, refl}
use Rattle.std.proofs.Common.{sym, ap, ◌∙◌, subst, arith}
use Rattle.std.specs.Prelude.{filter, nat_lt}
use Rattle.std.specs.List.{AllByRecursion}
use Rattle.std.proofs.lemmas.Bool.Decides.{nat_tests}
use Rattle.segment.specs.Items.{total_of, HaveSameItems}
use Rattle.index_core.specs.Histories.{is_among}

-- ---- numbers and tests

pub same_number : (x y : ℕ) → nat_eq x y ≡ true → x ≡ y
same_number x y e = grind (arith, nat_tests)

pub less_of : (m n : ℕ) → nat_lt m n ≡ true → m < n
less_of m n h = grind (arith, nat_tests)

pub both : (a b : Bool) → (a && b) ≡ true → (a ≡ true) × (b ≡ true)
both true b h = (refl, h)
both false b h = let no : false ≡ true = h in cc

pub not_true : (b : Bool) → not b ≡ true → b ≡ false
not_true true h = sym h
not_true false h = refl

-- ---- lists

pub take_shorter : {X : Type 0} (k n : ℕ) (xs : List X) → k ≤ n → take k (take n xs) ≡ take k xs
take_shorter zero n xs h = refl
take_shorter (suc k) zero xs h = absurd (omega (arith, h))
take_shorter (suc k) (suc n) [] h = refl
take_shorter (suc k) (suc n) (x ∷ xs) h =
    ap (λ zs. x ∷ zs) (take_shorter k n xs (omega (arith, h)))

-- what passes a first test passes a second
pub filter_inside : {X : Type 0} (p q : X → Bool) (xs : List X)
    → ((x : X) → p x ≡ true → q x ≡ true) → filter p (filter q xs) ≡ filter p xs
filter_inside p q [] h = refl
filter_inside p q (x ∷ xs) h = by_cases (p x) (q x) refl refl (filter_inside p q xs h)
  where
    by_cases : (b c : Bool) → p x ≡ b → q x ≡ c → filter p (filter q xs) ≡ filter p xs
        → filter p (filter q (x ∷ xs)) ≡ filter p (x ∷ xs)
    by_cases b true pb qb e = rw qb (ap (λ zs. cond (p x) (x ∷ zs) zs) e)
    by_cases false false pb qb e = rw qb (rw pb e)
    by_cases true false pb qb e = let no : q x ≡ true = h x pb in cc

pub map-drop : {X Y : Type 0} (f : X → Y) (n : ℕ) (xs : List X)
    → map f (drop n xs) ≡ drop n (map f xs)
map-drop f zero xs = refl
map-drop f (suc n) [] = refl
map-drop f (suc n) (x ∷ xs) = map-drop f n xs

pub no_items : {X : Type 0} (xs : List X) → length xs ≡ 0 → xs ≡ []
no_items [] e = refl
no_items (x ∷ xs) e = absurd (omega (arith, e))

-- ---- each item

pub all_weaker : {X : Type 0} (P Q : X → Type 0) → ((x : X) → P x → Q x) → (xs : List X)
    → AllByRecursion P xs → AllByRecursion Q xs
all_weaker P Q f [] all = tt
all_weaker P Q f (x ∷ xs) all = (f x all.0, all_weaker P Q f xs all.1)

pub all_more : {X : Type 0} (P : X → Type 0) (xs : List X) (x : X) → AllByRecursion P xs → P x
    → AllByRecursion P (xs ++ x ∷ [])
all_more P [] x all last = (last, tt)
all_more P (y ∷ xs) x all last = (all.0, all_more P xs x all.1 last)

-- what passes a test
pub all_filter : {X : Type 0} (P : X → Type 0) (p : X → Bool) (xs : List X) → AllByRecursion P xs
    → AllByRecursion P (filter p xs)
all_filter P p [] all = tt
all_filter P p (x ∷ xs) all = by_test (p x) (all_filter P p xs all.1)
  where
    by_test : (b : Bool) → AllByRecursion P (filter p xs)
        → AllByRecursion P (cond b (x ∷ filter p xs) (filter p xs))
    by_test true later = (all.0, later)
    by_test false later = later

pub all_both : {X : Type 0} (P : X → Type 0) (xs ys : List X) → AllByRecursion P xs
    → AllByRecursion P ys → AllByRecursion P (xs ++ ys)
all_both P [] ys all more = more
all_both P (x ∷ xs) ys all more = (all.0, all_both P xs ys all.1 more)

pub all_pairs : {X : Type 0} (P Q : X → Type 0) (xs : List X) → AllByRecursion P xs
    → AllByRecursion Q xs → AllByRecursion (λ x. P x × Q x) xs
all_pairs P Q [] ps qs = tt
all_pairs P Q (x ∷ xs) ps qs = ((ps.0, qs.0), all_pairs P Q xs ps.1 qs.1)

-- what holds of each number holds of one among them
pub in_all : (P : ℕ → Type 0) (g : ℕ) (gs : List ℕ) → is_among g gs ≡ true → AllByRecursion P gs
    → P g
in_all P g [] is all = let no : false ≡ true = is in cc
in_all P g (x ∷ xs) is all = by_cases (nat_eq g x) refl (λ e. in_all P g xs e all.1)
  where
    by_cases : (b : Bool) → nat_eq g x ≡ b → (is_among g xs ≡ true → P g) → P g
    by_cases true e again = subst P (sym (same_number g x e)) all.0
    by_cases false e again = again (ap (λ (c : Bool). c || is_among g xs) (sym e) ∙ is)

-- ---- the same items

-- sums over what passes a test
abbrev pub passing : {X : Type 0} → (f : X → ℕ) (p : X → Bool) → X → ℕ
passing f p x = cond (p x) (f x) 0

pub total_of-filter : {X : Type 0} (f : X → ℕ) (p : X → Bool) (xs : List X)
    → total_of f (filter p xs) ≡ total_of (passing f p) xs
total_of-filter f p [] = refl
total_of-filter f p (x ∷ xs) = by_cases (p x) (total_of-filter f p xs)
  where
    by_cases : (b : Bool) → total_of f (filter p xs) ≡ total_of (passing f p) xs
        → total_of f (cond b (x ∷ filter p xs) (filter p xs))
        ≡ cond b (f x) 0 + total_of (passing f p) xs
    by_cases true e = ap (λ (n : ℕ). f x + n) e
    by_cases false e = omega (arith, e)

pub total_of-append : {X : Type 0} (f : X → ℕ) (xs ys : List X)
    → total_of f (xs ++ ys) ≡ total_of f xs + total_of f ys
total_of-append f [] ys = omega arith
total_of-append f (x ∷ xs) ys = let e = total_of-append f xs ys in omega (arith, e)

-- lists with the same items, filtered
pub same_filtered : {X : Type 0} (p : X → Bool) (xs ys : List X)
    → HaveSameItems xs ys → HaveSameItems (filter p xs) (filter p ys)
same_filtered p xs ys same f =
    total_of-filter f p xs ∙ same (passing f p) ∙ sym (total_of-filter f p ys)

-- and with the same items behind them
pub same_more : {X : Type 0} (xs ys zs : List X) → HaveSameItems xs ys
    → HaveSameItems (xs ++ zs) (ys ++ zs)
same_more xs ys zs same f =
    total_of-append f xs zs ∙ ap (λ (n : ℕ). n + total_of f zs) (same f)
    ∙ sym (total_of-append f ys zs)
