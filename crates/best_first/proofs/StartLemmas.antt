-- Contexts by their numbers.
use Rattle.std.proofs.Common.{◌≡◌, ◌<◌, ℕ, zero, suc, Bool, true, false, cond, inl, inr, List, []}
use Rattle.std.proofs.Common.{◌∷◌, length, refl, sym, ap, ◌∙◌, arith}
use Rattle.std.specs.Cmp.Lexicographic.{bytes_decides}
use Rattle.std.specs.Prelude.{bytes_eq}
use Rattle.sg_base.specs.Lists.{In, Pairs}
use Rattle.fst_walk.proofs.BoolLemmas.{clash}
use Rattle.best_first.specs.Met.{IsAt}
use Rattle.best_first.specs.PathMatches.{place_of}

-- contexts by number
pub at_one : (xs : List (List ℕ)) (n : ℕ) (c d : List ℕ) → IsAt xs n c → IsAt xs n d → c ≡ d
at_one [] n c d i j = elim i [ ]
at_one (x ∷ xs) zero c d i j = sym i ∙ j
at_one (x ∷ xs) (suc n) c d i j = at_one xs n c d i j

pub at_in : (xs : List (List ℕ)) (n : ℕ) (c : List ℕ) → IsAt xs n c → In c xs
at_in [] n c i = elim i [ ]
at_in (x ∷ xs) zero c i = inl (sym i)
at_in (x ∷ xs) (suc n) c i = inr (at_in xs n c i)

place_by : (c x : List ℕ) (xs : List (List ℕ)) (b : Bool) → bytes_eq c x ≡ b
    → (In c xs → IsAt xs (place_of c xs) c) → In c (x ∷ xs)
    → IsAt (x ∷ xs) (cond b 0 (suc (place_of c xs))) c
place_by c x xs true e f i = sym ((bytes_decides c x).0 e)
place_by c x xs false e f (inl i) = absurd (clash (sym e ∙ (bytes_decides c x).1 i))
place_by c x xs false e f (inr i) = f i

pub at_place : (c : List ℕ) (xs : List (List ℕ)) → In c xs → IsAt xs (place_of c xs) c
at_place c [] i = elim i [ ]
at_place c (x ∷ xs) i = place_by c x xs (bytes_eq c x) refl (at_place c xs) i

number_by : (c x : List ℕ) (n m : ℕ) (b : Bool) → bytes_eq c x ≡ b → (x ≡ c → ⊥) → m ≡ n
    → cond b 0 (suc m) ≡ suc n
number_by c x n m true e f h = absurd (f (sym ((bytes_decides c x).0 e)))
number_by c x n m false e f h = ap suc h

pub number_of : (xs : List (List ℕ)) (n : ℕ) (c : List ℕ) → Pairs (λ a b. a ≡ b → ⊥) xs
    → IsAt xs n c → place_of c xs ≡ n
number_of [] n c d i = elim i [ ]
number_of (x ∷ xs) zero c d i =
    ap (λ b. cond b 0 (suc (place_of c xs))) ((bytes_decides c x).1 (sym i))
number_of (x ∷ xs) (suc n) c d i =
    number_by c x n (place_of c xs) (bytes_eq c x) refl (d.0 c (at_in xs n c i))
    (number_of xs n c d.1 i)

pub at_few : (xs : List (List ℕ)) (n : ℕ) (c : List ℕ) → IsAt xs n c → n < length xs
at_few [] n c i = elim i [ ]
at_few (x ∷ xs) zero c i = omega arith
at_few (x ∷ xs) (suc n) c i = let h = at_few xs n c i in omega (arith, h)
