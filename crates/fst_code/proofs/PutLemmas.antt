-- What is put piece by piece.
use Rattle.std.proofs.Common.{◌≡◌, ◌<◌, ◌+◌, ℕ, suc, List, ◌∷◌, ◌++◌, drop, length, get_or, sym, ap}
use Rattle.std.proofs.Common.{◌∙◌, arith, append_assoc}
use Rattle.std.specs.List.{flat_map}
use Rattle.std.proofs.Math.Seq.{drop-cons}

pub drop_next : {X : Type 0} (xs : List X) (i : ℕ) (d : X) → i < length xs
    → drop i xs ≡ get_or xs i d ∷ drop (i + 1) xs
drop_next xs i d h =
    let s : suc i ≡ i + 1 = omega (arith) in
    drop-cons xs i d h ∙ ap (λ (k : ℕ). get_or xs i d ∷ drop k xs) s

pub put_step : {X : Type 0} (f : X → List ℕ) (out out2 whole : List ℕ) (xs : List X) (i : ℕ) (d : X)
    → i < length xs → out2 ≡ out ++ f (get_or xs i d) → out ++ flat_map f (drop i xs) ≡ whole
    → out2 ++ flat_map f (drop (i + 1) xs) ≡ whole
put_step {X} f out out2 whole xs i d h e inv =
    ap (λ (x : List ℕ). x ++ flat_map f (drop (i + 1) xs)) e
    ∙ append_assoc out (f (get_or xs i d)) (flat_map f (drop (i + 1) xs))
    ∙ sym (ap (λ (x : List X). out ++ flat_map f x) (drop_next xs i d h))
    ∙ inv
