-- The greatest of some numbers.
use Rattle.std.proofs.Common.{◌≡◌, ℕ, ◌<◌, ◌≤◌, max, List, [], ◌∷◌, refl, subst, arith, ⊎_elim}
use Rattle.std.specs.Prelude.{fold, All, Contains, IfSome}
use Rattle.std.specs.List.{reduce}
use Rattle.std.proofs.lemmas.Bool.{cases_lt}
use Rattle.std.proofs.lemmas.List.Elements.{All-nil, All-cons, All-head, All-tail, All-contains}
use Rattle.std.proofs.lemmas.List.Elements.{Contains-append_left, Contains-append_right}
use Rattle.std.proofs.lemmas.List.Elements.{Contains-append_cases}
use Rattle.sg_context.specs.Boosts.{IsGreatest}

-- none of some numbers is greater than the greatest so far and of the rest
fold-max_bounds : (n : ℕ) (ns : List ℕ) → All (λ m. m ≤ fold max n ns) (n ∷ ns)
fold-max_bounds n [] = All-cons (λ m. m ≤ n) n [] (omega arith) (All-nil (λ m. m ≤ n))
fold-max_bounds n (m ∷ ms) =
    let P : ℕ → Type 0 = λ k. k ≤ fold max (max n m) ms in
    let rest = fold-max_bounds (max n m) ms in
    let first : max n m ≤ fold max (max n m) ms = All-head P (max n m) ms rest in
    All-cons P n (m ∷ ms) (omega arith)
    (All-cons P m ms (omega arith) (All-tail P (max n m) ms rest))

-- it is one of them
fold-max_reached : (n : ℕ) (ns : List ℕ) → Contains (n ∷ ns) (fold max n ns)
fold-max_reached n [] = (0, omega arith, refl)
fold-max_reached n (m ∷ ms) =
    let goal : ℕ → Type 0 = λ k. Contains (n ∷ (m ∷ ms)) (fold max k ms) in
    ⊎_elim
    (λ (less : n < m).
    let e : m ≡ max n m = omega arith in
    subst goal e (Contains-append_right (n ∷ []) (m ∷ ms) (fold max m ms) (fold-max_reached m ms)))
    (λ (more : m ≤ n).
    let e : n ≡ max n m = omega arith in
    subst goal e (⊎_elim
    (Contains-append_left (n ∷ []) (m ∷ ms) (fold max n ms))
    (Contains-append_right (n ∷ (m ∷ [])) ms (fold max n ms))
    (Contains-append_cases (n ∷ []) ms (fold max n ms) (fold-max_reached n ms))))
    (cases_lt n m)

-- what `reduce max` gives
pub reduce-max : (ns : List ℕ) → IfSome (reduce max ns) (IsGreatest ns)
reduce-max [] = tt
reduce-max (n ∷ ns) =
    record { one_of = fold-max_reached n ns; none_greater = fold-max_bounds n ns }

-- whatever holds of all numbers holds of the greatest
pub All-reduce_max : (P : ℕ → Type 0) (ns : List ℕ) → All P ns → IfSome (reduce max ns) P
All-reduce_max P [] all = tt
All-reduce_max P (n ∷ ns) all = All-contains P (n ∷ ns) (fold max n ns) all (fold-max_reached n ns)
