-- What passes a test stands between two places, where it fails before the first and from the second on.
use Rattle.std.proofs.Common.{◌≡◌, ◌≤◌, ◌<◌, ◌+◌, ◌-◌, ℕ, zero, suc, Bool, true, false}
use Rattle.std.proofs.Common.{cond, List, [], ◌∷◌, length}
use Rattle.std.proofs.Common.{filter}
use Rattle.std.proofs.Common.{take, drop, get_or, refl, ap, ◌∙◌, arith}
use Rattle.std.proofs.lemmas.List.{get_or-drop, length-drop}

pub none_pass_before : {X : Type 0} (p : X → Bool) (xs : List X) (lo : ℕ) → lo ≤ length xs
    → ((k : ℕ) (d : X) → k < lo → p (get_or xs k d) ≡ false) → filter p xs ≡ filter p (drop lo xs)
none_pass_before p xs zero l h = refl
none_pass_before p [] (suc lo) l h = refl
none_pass_before p (x ∷ xs) (suc lo) l h =
    ap (λ b. cond b (x ∷ filter p xs) (filter p xs)) (h 0 x (omega arith))
    ∙ none_pass_before p xs lo (omega (arith, l)) (λ k d m. h (suc k) d (omega (arith, m)))

none_pass : {X : Type 0} (p : X → Bool) (xs : List X)
    → ((k : ℕ) (d : X) → k < length xs → p (get_or xs k d) ≡ false) → filter p xs ≡ []
none_pass p [] h = refl
none_pass p (x ∷ xs) h =
    ap (λ b. cond b (x ∷ filter p xs) (filter p xs)) (h 0 x (omega arith))
    ∙ none_pass p xs (λ k d m. h (suc k) d (omega (arith, m)))

pub some_pass : {X : Type 0} (p : X → Bool) (xs : List X) (n : ℕ) → n ≤ length xs
    → ((k : ℕ) (d : X) → k < n → p (get_or xs k d) ≡ true)
    → ((k : ℕ) (d : X) → n ≤ k → k < length xs → p (get_or xs k d) ≡ false)
    → filter p xs ≡ take n xs
some_pass p xs zero l ok none_more = none_pass p xs (λ k d m. none_more k d (omega arith) m)
some_pass p [] (suc n) l ok none_more = refl
some_pass p (x ∷ xs) (suc n) l ok none_more =
    ap (λ b. cond b (x ∷ filter p xs) (filter p xs)) (ok 0 x (omega arith))
    ∙ ap (λ z. x ∷ z) (some_pass p xs n (omega (arith, l))
    (λ k d m. ok (suc k) d (omega (arith, m)))
    (λ k d m o. none_more (suc k) d (omega (arith, m)) (omega (arith, o))))

pub between : {X : Type 0} (p : X → Bool) (xs : List X) (lo hi : ℕ) → lo ≤ hi → hi ≤ length xs
    → ((k : ℕ) (d : X) → k < lo → p (get_or xs k d) ≡ false)
    → ((k : ℕ) (d : X) → lo ≤ k → k < hi → p (get_or xs k d) ≡ true)
    → ((k : ℕ) (d : X) → hi ≤ k → k < length xs → p (get_or xs k d) ≡ false)
    → filter p xs ≡ take (hi - lo) (drop lo xs)
between p xs lo hi l m before inside behind =
    let n = length-drop lo xs in
    none_pass_before p xs lo (omega (arith, l, m)) before
    ∙ some_pass p (drop lo xs) (hi - lo) (omega (arith, l, m, n))
    (λ k d a. ap p (get_or-drop lo xs k d) ∙ inside (lo + k) d (omega arith) (omega (arith, a, l)))
    (λ k d a b. ap p (get_or-drop lo xs k d)
    ∙ behind (lo + k) d (omega (arith, a, l)) (omega (arith, b, n)))
