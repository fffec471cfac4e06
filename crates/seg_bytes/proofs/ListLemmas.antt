-- Loops over lists: what is said of the items that are left, and room for what they append.
use Rattle.std.proofs.Common.{◌≡◌, ◌≤◌, ◌<◌, ◌+◌, ℕ, List, ◌++◌, length, drop, get_or}
use Rattle.std.proofs.Common.{sym, ap, subst, ◌∙◌, arith}
use Rattle.std.specs.Prelude.{Result, Ok, Err, OnErr, OnOk}
use Rattle.std.specs.List.{AllByRecursion, flat_map}
use Rattle.std.proofs.lemmas.List.{length-append, drop_more, drop_all}

-- one item more of which P holds
pub rest_more : {X : Type 0} (P : X → Type 0) (xs : List X) (i : ℕ) (d : X) → i < length xs
    → P (get_or xs i d) → (AllByRecursion P (drop i xs) → AllByRecursion P xs)
    → AllByRecursion P (drop (i + 1) xs) → AllByRecursion P xs
rest_more P xs i d h p f a =
    f (subst (AllByRecursion P) (sym (drop_more xs i d h)) (p, a))

-- no item is left
pub rest_all : {X : Type 0} (P : X → Type 0) (xs : List X) (i : ℕ) → length xs ≤ i
    → (AllByRecursion P (drop i xs) → AllByRecursion P xs) → AllByRecursion P xs
rest_all P xs i h f = f (subst (AllByRecursion P) (sym (drop_all i xs h)) tt)

-- the bytes of an item and of those behind it
pub length_more : {X : Type 0} (f : X → List ℕ) (xs : List X) (i : ℕ) (x : X) → i < length xs
    → x ≡ get_or xs i x → length (flat_map f (drop i xs))
    ≡ length (f x) + length (flat_map f (drop (i + 1) xs))
length_more f xs i x h is =
    ap (λ ys. length (flat_map f ys)) (drop_more xs i x h)
    ∙ length-append (f (get_or xs i x)) (flat_map f (drop (i + 1) xs))
    ∙ ap (λ y. length (f y) + length (flat_map f (drop (i + 1) xs))) (sym is)

-- room is missing for the whole where it is missing for an item
pub full_in : {X : Type 0} (f : X → List ℕ) (xs : List X) (i : ℕ) (x : X) → i < length xs
    → x ≡ get_or xs i x → (old new : List ℕ) → new ++ flat_map f (drop i xs) ≡ old ++ flat_map f xs
    → (room more : ℕ) → room ≤ more → more < length new + length (f x)
    → room < length old + length (flat_map f xs)
full_in f xs i x h is old new all room more less full =
    let whole : length new + length (flat_map f (drop i xs))
    ≡ length old + length (flat_map f xs) =
    sym (length-append new (flat_map f (drop i xs))) ∙ ap length all
    ∙ length-append old (flat_map f xs) in
    let left : length (flat_map f (drop i xs))
    ≡ length (f x) + length (flat_map f (drop (i + 1) xs)) = length_more f xs i x h is in
    omega (arith, whole, left, less, full)

-- what holds anyway holds where there is an error
pub on_err : {T E P : Type 0} (r : Result T E) → P → OnErr r P
on_err (Ok x) p = tt
on_err (Err e) p = p

-- and where there is none
pub on_ok : {T E P : Type 0} (r : Result T E) → P → OnOk r P
on_ok (Ok x) p = p
on_ok (Err e) p = tt
