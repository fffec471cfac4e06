-- Lists that have the same items in some order. Source: this project's own.
use Rattle.std.specs.Prelude.{◌≡◌, ℕ, ◌+◌, List, [], ◌∷◌}

-- a sum over a list
abbrev pub total_of : {X : Type 0} → (X → ℕ) → List X → ℕ
total_of f [] = 0
total_of f (x ∷ xs) = f x + total_of f xs

-- the same items, each as often, in some order: whatever is summed over them is the same
abbrev pub HaveSameItems : {X : Type 0} → List X → List X → Type 0
HaveSameItems {X} xs ys = (f : X → ℕ) → total_of f xs ≡ total_of f ys
