-- Key bytes first and then the rest is the order of all bytes.
use Rattle.std.proofs.Common.{◌≡◌, ◌<◌, ℕ, Bool, true, false, cond, nat_eq}
use Rattle.std.proofs.Common.{List, [], ◌∷◌, ◌++◌, refl, sym, ap, arith}
use Rattle.std.specs.declared.cmp.Ordering.{Ordering}
use Rattle.std.specs.declared.cmp.Ordering.TheVariants.{Less, Equal, Greater}
use Rattle.std.specs.Cmp.Lexicographic.{slice_cmp}
use Rattle.std.specs.Ordering.{nat_cmp, ordering_then, is_le}
use Rattle.std.proofs.lemmas.Bool.Decides.{nat_tests}
use Rattle.path_desk.specs.Entries.{key_part, rest_part}

abbrev pub split_cmp : List ℕ → List ℕ → Ordering
split_cmp xs ys = ordering_then (slice_cmp nat_cmp (key_part xs) (key_part ys))
    (slice_cmp nat_cmp (rest_part xs) (rest_part ys))

then_join : (o a b c : Ordering) → ordering_then a b ≡ c
    → ordering_then (ordering_then o a) b ≡ ordering_then o c
then_join Less a b c e = refl
then_join Equal a b c e = e
then_join Greater a b c e = refl

pub less_cmp : (x y : ℕ) → x < y → nat_cmp x y ≡ Less
less_cmp x y l = grind (arith, nat_tests)

more_cmp : (x y : ℕ) → y < x → nat_cmp x y ≡ Greater
more_cmp x y l = grind (arith, nat_tests)

zero_test : (x : ℕ) → nat_eq x 0 ≡ true → x ≡ 0
zero_test x e = grind (arith, nat_tests)

some_test : (x : ℕ) → nat_eq x 0 ≡ false → 0 < x
some_test x e = grind (arith, nat_tests)

heads : (s t : Bool) (x y : ℕ) (xs ys kx ky rx ry : List ℕ) → nat_eq x 0 ≡ s → nat_eq y 0 ≡ t
    → ordering_then (slice_cmp nat_cmp kx ky) (slice_cmp nat_cmp rx ry) ≡ slice_cmp nat_cmp xs ys
    → ordering_then (slice_cmp nat_cmp (cond s [] (x ∷ kx)) (cond t [] (y ∷ ky)))
    (slice_cmp nat_cmp (cond s (x ∷ xs) rx) (cond t (y ∷ ys) ry))
    ≡ slice_cmp nat_cmp (x ∷ xs) (y ∷ ys)
heads true true x y xs ys kx ky rx ry a b e = refl
heads true false x y xs ys kx ky rx ry a b e = let l : x < y =
    omega (arith, zero_test x a, some_test y b) in
    sym (ap (λ o. ordering_then o (slice_cmp nat_cmp xs ys)) (less_cmp x y l))
heads false true x y xs ys kx ky rx ry a b e = let l : y < x =
    omega (arith, zero_test y b, some_test x a) in
    sym (ap (λ o. ordering_then o (slice_cmp nat_cmp xs ys)) (more_cmp x y l))
heads false false x y xs ys kx ky rx ry a b e = then_join (nat_cmp x y) _ _ _ e

left_nil : (t : Bool) (y : ℕ) (ys ky ry : List ℕ)
    → ordering_then (slice_cmp nat_cmp [] (cond t [] (y ∷ ky)))
    (slice_cmp nat_cmp [] (cond t (y ∷ ys) ry)) ≡ Less
left_nil true y ys ky ry = refl
left_nil false y ys ky ry = refl

right_nil : (t : Bool) (y : ℕ) (ys ky ry : List ℕ)
    → ordering_then (slice_cmp nat_cmp (cond t [] (y ∷ ky)) [])
    (slice_cmp nat_cmp (cond t (y ∷ ys) ry) []) ≡ Greater
right_nil true y ys ky ry = refl
right_nil false y ys ky ry = refl

pub split_same : (xs ys : List ℕ) → split_cmp xs ys ≡ slice_cmp nat_cmp xs ys
split_same [] [] = refl
split_same [] (y ∷ ys) = left_nil (nat_eq y 0) y ys (key_part ys) (rest_part ys)
split_same (x ∷ xs) [] = right_nil (nat_eq x 0) x xs (key_part xs) (rest_part xs)
split_same (x ∷ xs) (y ∷ ys) =
    heads (nat_eq x 0) (nat_eq y 0) x y xs ys (key_part xs) (key_part ys) (rest_part xs)
    (rest_part ys) refl refl (split_same xs ys)

same_then : (o a : Ordering) → o ≡ Equal → is_le a ≡ true → is_le (ordering_then o a) ≡ true
same_then Less a e h = refl
same_then Equal a e h = h
same_then Greater a e h = cc

same_cmp : (x : ℕ) → nat_cmp x x ≡ Equal
same_cmp x = grind (arith, nat_tests)

from_nothing : (xs : List ℕ) → is_le (slice_cmp nat_cmp [] xs) ≡ true
from_nothing [] = refl
from_nothing (x ∷ xs) = refl

grows_at : (t : Bool) (p : ℕ) (ps qs : List ℕ) → is_le (slice_cmp nat_cmp ps qs) ≡ true
    → is_le (slice_cmp nat_cmp (cond t [] (p ∷ ps)) (cond t [] (p ∷ qs))) ≡ true
grows_at true p ps qs h = refl
grows_at false p ps qs h = same_then (nat_cmp p p) (slice_cmp nat_cmp ps qs) (same_cmp p) h

-- key bytes only grow
pub key_grows : (ps qs : List ℕ)
    → is_le (slice_cmp nat_cmp (key_part ps) (key_part (ps ++ qs))) ≡ true
key_grows [] qs = from_nothing (key_part qs)
key_grows (p ∷ ps) qs = grows_at (nat_eq p 0) p (key_part ps) (key_part (ps ++ qs))
    (key_grows ps qs)
