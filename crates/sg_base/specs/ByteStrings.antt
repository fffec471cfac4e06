-- Byte strings: what they begin with, their order, and bytes that they lack. Source: this project's
-- own.
use Rattle.std.specs.Prelude.{ℕ, Bool, true, false, not, ◌&&◌, ◌==◌, nat_lt, cond, List, [], ◌∷◌}

-- whether the second begins with the first
abbrev pub begins : List ℕ → List ℕ → Bool
begins [] bytes = true
begins (b ∷ bs) [] = false
begins (b ∷ bs) (x ∷ xs) = (b == x) && begins bs xs

-- whether the first stands before the second, bytewise
abbrev pub is_less : List ℕ → List ℕ → Bool
is_less [] [] = false
is_less [] (y ∷ ys) = true
is_less (x ∷ xs) [] = false
is_less (x ∷ xs) (y ∷ ys) = cond (y == x) (is_less xs ys) (nat_lt x y)

-- whether no byte of it is this one
abbrev pub lacks : ℕ → List ℕ → Bool
lacks b [] = true
lacks b (x ∷ xs) = not (x == b) && lacks b xs
