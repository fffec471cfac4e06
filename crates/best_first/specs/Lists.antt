-- How many of a list pass, and two lists side by side. No public clause cites it. Source: this
-- project's own.
use Rattle.std.specs.Prelude.{ℕ, ◌+◌, Bool, cond, ⊤, List, [], ◌∷◌}

-- how many pass
abbrev pub passing : {X : Type 0} → (X → Bool) → List X → ℕ
passing p [] = 0
passing p (x ∷ xs) = cond (p x) 1 0 + passing p xs

-- each stands to the one beside it in this way
abbrev pub Beside : {X Y : Type 0} → (X → Y → Type 0) → List X → List Y → Type 0
Beside R [] [] = ⊤
Beside R [] (y ∷ ys) = ⊥
Beside R (x ∷ xs) [] = ⊥
Beside R (x ∷ xs) (y ∷ ys) = R x y × Beside R xs ys
