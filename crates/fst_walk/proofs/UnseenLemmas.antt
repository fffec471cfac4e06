-- How many bytes of a context are unseen at a position.
use Rattle.fst_walk.specs.Positions.{is_left, unseen}
use Rattle.sg_base.proofs.ByteStringLemmas.{Byte, byte, same, less, more}
use Rattle.std.proofs.Common.{◌≡◌, ◌≤◌, ◌+◌, ℕ, suc, Bool, true, false, cond, List, [], ◌∷◌, ◌++◌}
use Rattle.std.proofs.Common.{length, refl, ap, arith, eqb, eq-eqb, Option, Some, None, ltb, leb}
use Rattle.std.proofs.lemmas.Bool.{leb-true, le-leb, lt-leb}
use Rattle.fst_walk.proofs.BoolLemmas.{clash}

pop_first_unseen : (l x n : ℕ) → Byte l x
    → cond (eqb x l) 0 (cond (ltb l x) n 0) ≡ cond (leb (l + 1) x) n 0
pop_first_unseen l x n (same p e) = rw (p, lt-leb (l + 1) x (omega (arith, e))) refl
pop_first_unseen l x n (less p r h) = rw (p, r, le-leb (l + 1) x (omega (arith, h))) refl
pop_first_unseen l x n (more p r h) = rw (p, r, lt-leb (l + 1) x (omega (arith, h))) refl

pub pop_unseen : (at : List ℕ) (l : ℕ) (c : List ℕ)
    → unseen (at ++ l ∷ []) None c ≡ unseen at (Some (l + 1)) c
pop_unseen [] l [] = refl
pop_unseen [] l (x ∷ []) = pop_first_unseen l x 1 (byte l x)
pop_unseen [] l (x ∷ (y ∷ c)) = pop_first_unseen l x (1 + suc (length c)) (byte l x)
pop_unseen (a ∷ at) l [] = refl
pop_unseen (a ∷ at) l (x ∷ c) =
    ap (λ b. cond (eqb x a) b (cond (ltb a x) (1 + length c) 0)) (pop_unseen at l c)

most_first : (b : Bool) (n : ℕ) → cond b (1 + n) 0 ≤ suc n
most_first true n = omega arith
most_first false n = omega arith

most_at : (b d : Bool) (m n : ℕ) → m ≤ n → cond b m (cond d (1 + n) 0) ≤ suc n
most_at true d m n h = omega (arith, h)
most_at false true m n h = omega arith
most_at false false m n h = omega arith

-- unseen bytes
pub unseen_most : (at c : List ℕ) (f : Option ℕ) → unseen at f c ≤ length c
unseen_most [] [] f = omega arith
unseen_most [] (x ∷ c) None = omega arith
unseen_most [] (x ∷ c) (Some f) = most_first (leb f x) (length c)
unseen_most (a ∷ at) [] f = omega arith
unseen_most (a ∷ at) (x ∷ c) f =
    most_at (eqb x a) (ltb a x) (unseen at f c) (length c) (unseen_most at c f)

-- a later position leaves no more of a context
jump_by : (at g c : List ℕ) (f : Option ℕ) (a x y : ℕ) → Byte a x → Byte x y → Byte a y
    → (is_left at f g ≡ true → unseen g (Some 0) c ≤ unseen at f c)
    → cond (eqb x a) (is_left at f g) (ltb a x) ≡ true
    → cond (eqb y x) (unseen g (Some 0) c) (cond (ltb x y) (1 + length c) 0)
    ≤ cond (eqb y a) (unseen at f c) (cond (ltb a y) (1 + length c) 0)
jump_by at g c f a x y (same p e) (same q r) (same s t) ih h = rw (q, s) (ih (rw p at h))
jump_by at g c f a x y (same p e) (same q r) (less s t u) ih h = absurd (omega (arith, e, r, u))
jump_by at g c f a x y (same p e) (same q r) (more s t u) ih h = absurd (omega (arith, e, r, u))
jump_by at g c f a x y (same p e) (less q r l) (same s t) ih h = absurd (omega (arith, e, l, t))
jump_by at g c f a x y (same p e) (less q r l) (less s t u) ih h = rw (q, r, s, t) (omega arith)
jump_by at g c f a x y (same p e) (less q r l) (more s t u) ih h = absurd (omega (arith, e, l, u))
jump_by at g c f a x y (same p e) (more q r l) w ih h = rw (q, r) (omega arith)
jump_by at g c f a x y (less p d l) (same q r) (same s t) ih h = absurd (omega (arith, l, r, t))
jump_by at g c f a x y (less p d l) (same q r) (less s t u) ih h =
    rw (q, s, t) (let m = unseen_most g c (Some 0) in omega (arith, m))
jump_by at g c f a x y (less p d l) (same q r) (more s t u) ih h = absurd (omega (arith, l, r, u))
jump_by at g c f a x y (less p d l) (less q r m) (same s t) ih h = absurd (omega (arith, l, m, t))
jump_by at g c f a x y (less p d l) (less q r m) (less s t u) ih h = rw (q, r, s, t) (omega arith)
jump_by at g c f a x y (less p d l) (less q r m) (more s t u) ih h = absurd (omega (arith, l, m, u))
jump_by at g c f a x y (less p d l) (more q r m) w ih h = rw (q, r) (omega arith)
jump_by at g c f a x y (more p d l) v w ih h = absurd (let z = rw (p, d) at h in clash z)

first_jump : (g c : List ℕ) (f x y : ℕ) → Byte x y → leb f x ≡ true
    → cond (eqb y x) (unseen g (Some 0) c) (cond (ltb x y) (1 + length c) 0) ≤ cond (leb f y)
    (1 + length c) 0
first_jump g c f x y (same p e) h =
    let k = leb-true f x h in rw (p, le-leb f y (omega (arith, k, e)))
    (let m = unseen_most g c (Some 0) in omega (arith, m))
first_jump g c f x y (less p r l) h = let k =
    leb-true f x h in rw (p, r, le-leb f y (omega (arith, k, l))) (omega arith)
first_jump g c f x y (more p r l) h = rw (p, r) (omega arith)

pub jump_unseen : (at g c : List ℕ) (f : Option ℕ) → is_left at f g ≡ true
    → unseen g (Some 0) c ≤ unseen at f c
jump_unseen [] [] c f h = absurd (clash h)
jump_unseen [] (x ∷ g) [] f h = omega arith
jump_unseen [] (x ∷ g) (y ∷ c) None h = absurd (clash h)
jump_unseen [] (x ∷ g) (y ∷ c) (Some f) h = first_jump g c f x y (byte x y) h
jump_unseen (a ∷ at) [] c f h = absurd (clash h)
jump_unseen (a ∷ at) (x ∷ g) [] f h = omega arith
jump_unseen (a ∷ at) (x ∷ g) (y ∷ c) f h =
    jump_by at g c f a x y (byte a x) (byte x y) (byte a y) (jump_unseen at g c f) h

past_unseen_at : (b d : Bool) (m n k : ℕ) → m ≤ n → cond b m (cond d k 0) ≤ cond b n (cond d k 0)
past_unseen_at true d m n k h = h
past_unseen_at false d m n k h = omega arith

pub past_unseen : (at c : List ℕ) (f : ℕ) → unseen at None c ≤ unseen at (Some f) c
past_unseen [] [] f = omega arith
past_unseen [] (x ∷ c) f = omega arith
past_unseen (a ∷ at) [] f = omega arith
past_unseen (a ∷ at) (x ∷ c) f =
    past_unseen_at (eqb x a) (ltb a x) _ _ (1 + length c) (past_unseen at c f)

-- at what goes on by the child, one byte fewer is unseen
push_unseen_at : (b d : Bool) (m n k : ℕ) → b ≡ true → m + 1 ≤ n
    → cond b m (cond d k 0) + 1 ≤ cond b n (cond d k 0)
push_unseen_at true d m n k e h = h
push_unseen_at false d m n k e h = cc

pub push_unseen : (at : List ℕ) (f l : ℕ) (rest : List ℕ) → f ≤ l
    → unseen (at ++ l ∷ []) (Some 0) (at ++ l ∷ rest) + 1 ≤ unseen at (Some f) (at ++ l ∷ rest)
push_unseen [] f l [] h = rw (eq-eqb l l refl, le-leb f l h) (omega arith)
push_unseen [] f l (y ∷ rest) h =
    rw (eq-eqb l l refl, le-leb f l h, le-leb 0 y (omega arith)) (omega arith)
push_unseen (a ∷ at) f l rest h =
    push_unseen_at (eqb a a) (ltb a a) _ _ (1 + length (at ++ l ∷ rest)) (eq-eqb a a refl)
    (push_unseen at f l rest h)
