-- Positions, and which contexts are left at them.
use Rattle.fst_walk.specs.Positions.{is_left}
use Rattle.sg_base.proofs.ByteStringLemmas.{Byte, byte, same, less, more}
use Rattle.sg_base.specs.ByteStrings.{begins, is_less}
use Rattle.std.proofs.Common.{◌≡◌, ◌≤◌, ◌<◌, ◌+◌, ℕ, Bool, true, false, ◌&&◌, cond, ◌⊎◌, inl, inr}
use Rattle.std.proofs.Common.{List, [], ◌∷◌, ◌++◌, refl, sym, ap, ◌∙◌, subst, arith, eqb, eq-eqb}
use Rattle.std.proofs.Common.{eqb-true, Option, Some, None, ltb, leb}
use Rattle.std.proofs.lemmas.Bool.{ne_eqb, leb-true, lt-ltb, le-leb, lt-leb}
use Rattle.fst_walk.proofs.BoolLemmas.{clash}

-- behind a, from its first byte on, is after a
pub left-less : (a c : List ℕ) → is_left a (Some 0) c ≡ is_less a c
left-less [] [] = refl
left-less [] (y ∷ c) = le-leb 0 y (omega arith)
left-less (x ∷ a) [] = refl
left-less (x ∷ a) (y ∷ c) = ap (λ b. cond (eqb y x) b (ltb x y)) (left-less a c)

-- what goes on from a position's context is behind what that is behind
trans_by : (at g c : List ℕ) (from : Option ℕ) (a x y : ℕ) → Byte a x → Byte x y
    → (is_left at from g ≡ true → is_left g (Some 0) c ≡ true → is_left at from c ≡ true)
    → cond (eqb x a) (is_left at from g) (ltb a x) ≡ true
    → cond (eqb y x) (is_left g (Some 0) c) (ltb x y) ≡ true
    → cond (eqb y a) (is_left at from c) (ltb a y) ≡ true
trans_by at g c from a x y (same p e) (same q f) ih h k =
    rw (eq-eqb y a (sym (e ∙ f))) (ih (rw p at h) (rw q at k))
trans_by at g c from a x y (same p e) (less q r l) ih h k =
    rw (ne_eqb y a (λ z. omega (arith, z, e, l)), lt-ltb a y (omega (arith, e, l))) refl
trans_by at g c from a x y (same p e) (more q r l) ih h k =
    absurd (let z = rw (q, r) at k in clash z)
trans_by at g c from a x y (less p s l) (same q f) ih h k =
    rw (ne_eqb y a (λ z. omega (arith, z, f, l)), lt-ltb a y (omega (arith, f, l))) refl
trans_by at g c from a x y (less p s l) (less q r m) ih h k =
    rw (ne_eqb y a (λ z. omega (arith, z, m, l)), lt-ltb a y (omega (arith, m, l))) refl
trans_by at g c from a x y (less p s l) (more q r m) ih h k =
    absurd (let z = rw (q, r) at k in clash z)
trans_by at g c from a x y (more p s l) w ih h k = absurd (let z = rw (p, s) at h in clash z)

first_trans : (g c : List ℕ) (f x y : ℕ) → Byte x y → leb f x ≡ true
    → cond (eqb y x) (is_left g (Some 0) c) (ltb x y) ≡ true → leb f y ≡ true
first_trans g c f x y (same q e) h k = le-leb f y (let l = leb-true f x h in omega (arith, l, e))
first_trans g c f x y (less q r l) h k = le-leb f y (let m = leb-true f x h in omega (arith, l, m))
first_trans g c f x y (more q r l) h k = absurd (let z = rw (q, r) at k in clash z)

pub left_trans : (at g c : List ℕ) (from : Option ℕ) → is_left at from g ≡ true
    → is_left g (Some 0) c ≡ true → is_left at from c ≡ true
left_trans [] [] c from h k = absurd (clash h)
left_trans [] (x ∷ g) [] from h k = absurd (clash k)
left_trans [] (x ∷ g) (y ∷ c) None h k = absurd (clash h)
left_trans [] (x ∷ g) (y ∷ c) (Some f) h k = first_trans g c f x y (byte x y) h k
left_trans (a ∷ at) [] c from h k = absurd (clash h)
left_trans (a ∷ at) (x ∷ g) [] from h k = absurd (clash k)
left_trans (a ∷ at) (x ∷ g) (y ∷ c) from h k =
    trans_by at g c from a x y (byte a x) (byte x y) (left_trans at g c from) h k

-- what begins with something that is behind is behind
left_longer_by : (at r c : List ℕ) (from : Option ℕ) (a x y : ℕ) → Byte a x → (b : Bool)
    → eqb x y ≡ b
    → (is_left at from r ≡ true → begins r c ≡ true → is_left at from c ≡ true)
    → cond (eqb x a) (is_left at from r) (ltb a x) ≡ true → (b && begins r c) ≡ true
    → cond (eqb y a) (is_left at from c) (ltb a y) ≡ true
left_longer_by at r c from a x y w false e ih h k = absurd (clash k)
left_longer_by at r c from a x y (same p q) true e ih h k =
    let f = eqb-true x y e in rw (eq-eqb y a (sym (q ∙ f))) (ih (rw p at h) k)
left_longer_by at r c from a x y (less p s l) true e ih h k =
    let f = eqb-true x y e in
    rw (ne_eqb y a (λ z. omega (arith, z, f, l)), lt-ltb a y (omega (arith, f, l))) refl
left_longer_by at r c from a x y (more p s l) true e ih h k =
    absurd (let z = rw (p, s) at h in clash z)

first_longer : (f x y : ℕ) (b d : Bool) → eqb x y ≡ b → leb f x ≡ true → (b && d) ≡ true
    → leb f y ≡ true
first_longer f x y true d e h k = let q = eqb-true x y e in subst (λ z. leb f z ≡ true) q h
first_longer f x y false d e h k = absurd (clash k)

pub left_longer : (at r c : List ℕ) (from : Option ℕ) → is_left at from r ≡ true → begins r c ≡ true
    → is_left at from c ≡ true
left_longer [] [] c from h k = absurd (clash h)
left_longer [] (x ∷ r) [] from h k = absurd (clash k)
left_longer [] (x ∷ r) (y ∷ c) None h k = absurd (clash h)
left_longer [] (x ∷ r) (y ∷ c) (Some f) h k = first_longer f x y (eqb x y) (begins r c) refl h k
left_longer (a ∷ at) [] c from h k = absurd (clash h)
left_longer (a ∷ at) (x ∷ r) [] from h k = absurd (clash k)
left_longer (a ∷ at) (x ∷ r) (y ∷ c) from h k =
    left_longer_by at r c from a x y (byte a x) (eqb x y) refl (left_longer at r c from) h k

-- nothing is behind itself
pub not_behind_itself : (c : List ℕ) → is_left c (Some 0) c ≡ false
not_behind_itself [] = refl
not_behind_itself (x ∷ c) = rw (eq-eqb x x refl) (not_behind_itself c)

-- past all that goes on from the bytes
past_by : (at c : List ℕ) (a x : ℕ) (b : Bool) → eqb a x ≡ b
    → (is_left at None c ≡ true → begins at c ≡ false)
    → cond (eqb x a) (is_left at None c) (ltb a x) ≡ true → (b && begins at c) ≡ false
past_by at c a x false e ih h = refl
past_by at c a x true e ih h = let f = eqb-true a x e in ih (rw (eq-eqb x a (sym f)) at h)

pub past_apart : (at c : List ℕ) → is_left at None c ≡ true → begins at c ≡ false
past_apart [] [] h = absurd (clash h)
past_apart [] (x ∷ c) h = absurd (clash h)
past_apart (a ∷ at) [] h = refl
past_apart (a ∷ at) (x ∷ c) h = past_by at c a x (eqb a x) refl (past_apart at c) h

-- what is behind the bytes goes on from them, or is past all that does
pub record GoesOn (at : List ℕ) (from : ℕ) (c : List ℕ) : Type 0 where
  pub label : ℕ
  pub rest : List ℕ
  pub is : c ≡ at ++ label ∷ rest
  pub least : from ≤ label

more_of : (at c : List ℕ) (f a x : ℕ) → eqb x a ≡ true → a ≡ x
    → (is_left at None c ≡ true) ⊎ GoesOn at f c
    → (cond (eqb x a) (is_left at None c) (ltb a x) ≡ true) ⊎ GoesOn (a ∷ at) f (x ∷ c)
more_of at c f a x p e (inl h) = inl (rw p h)
more_of at c f a x p e (inr g) = inr (record {
  label = g.label;
  rest = g.rest;
  is = ap (λ z. x ∷ z) g.is ∙ ap (λ z. z ∷ (at ++ g.label ∷ g.rest)) (sym e);
  least = g.least;
})

sides_by : (at c : List ℕ) (f a x : ℕ) → Byte a x
    → (is_left at (Some f) c ≡ true → (is_left at None c ≡ true) ⊎ GoesOn at f c)
    → cond (eqb x a) (is_left at (Some f) c) (ltb a x) ≡ true
    → (cond (eqb x a) (is_left at None c) (ltb a x) ≡ true) ⊎ GoesOn (a ∷ at) f (x ∷ c)
sides_by at c f a x (same p e) ih h = more_of at c f a x p e (ih (rw p at h))
sides_by at c f a x (less p r l) ih h = inl (rw (p, r) refl)
sides_by at c f a x (more p r l) ih h = absurd (let z = rw (p, r) at h in clash z)

pub sides : (at c : List ℕ) (f : ℕ) → is_left at (Some f) c ≡ true
    → (is_left at None c ≡ true) ⊎ GoesOn at f c
sides [] [] f h = absurd (clash h)
sides [] (x ∷ c) f h = inr (record { label = x; rest = c; is = refl; least = leb-true f x h })
sides (a ∷ at) [] f h = absurd (clash h)
sides (a ∷ at) (x ∷ c) f h = sides_by at c f a x (byte a x) (sides at c f) h

-- what is past all is behind from any byte on
past_by-from : (at c : List ℕ) (f a x : ℕ) → Byte a x
    → (is_left at None c ≡ true → is_left at (Some f) c ≡ true)
    → cond (eqb x a) (is_left at None c) (ltb a x) ≡ true
    → cond (eqb x a) (is_left at (Some f) c) (ltb a x) ≡ true
past_by-from at c f a x (same p e) ih h = rw p (ih (rw p at h))
past_by-from at c f a x (less p r l) ih h = rw (p, r) refl
past_by-from at c f a x (more p r l) ih h = absurd (let z = rw (p, r) at h in clash z)

pub past_from : (at c : List ℕ) (f : ℕ) → is_left at None c ≡ true → is_left at (Some f) c ≡ true
past_from [] [] f h = absurd (clash h)
past_from [] (x ∷ c) f h = absurd (clash h)
past_from (a ∷ at) [] f h = absurd (clash h)
past_from (a ∷ at) (x ∷ c) f h = past_by-from at c f a x (byte a x) (past_from at c f) h

-- behind, and not going on from the bytes, is past all that does
apart_by : (at c : List ℕ) (f a x : ℕ) → Byte a x
    → (is_left at (Some f) c ≡ true → begins at c ≡ false → is_left at None c ≡ true)
    → cond (eqb x a) (is_left at (Some f) c) (ltb a x) ≡ true → (eqb a x && begins at c) ≡ false
    → cond (eqb x a) (is_left at None c) (ltb a x) ≡ true
apart_by at c f a x (same p e) ih h k = rw p (ih (rw p at h) (rw (eq-eqb a x e) at k))
apart_by at c f a x (less p r l) ih h k = rw (p, r) refl
apart_by at c f a x (more p r l) ih h k = absurd (let z = rw (p, r) at h in clash z)

pub apart_past : (at c : List ℕ) (f : ℕ) → is_left at (Some f) c ≡ true → begins at c ≡ false
    → is_left at None c ≡ true
apart_past [] [] f h k = absurd (clash h)
apart_past [] (x ∷ c) f h k = absurd (clash (sym k))
apart_past (a ∷ at) [] f h k = absurd (clash h)
apart_past (a ∷ at) (x ∷ c) f h k = apart_by at c f a x (byte a x) (apart_past at c f) h k

pop_first : (l x : ℕ) → Byte l x → cond (eqb x l) false (ltb l x) ≡ leb (l + 1) x
pop_first l x (same p e) = rw p (sym (lt-leb (l + 1) x (omega (arith, e))))
pop_first l x (less p r h) = rw (p, r) (sym (le-leb (l + 1) x (omega (arith, h))))
pop_first l x (more p r h) = rw (p, r) (sym (lt-leb (l + 1) x (omega (arith, h))))

-- going up
pub pop_left : (at : List ℕ) (l : ℕ) (c : List ℕ)
    → is_left (at ++ l ∷ []) None c ≡ is_left at (Some (l + 1)) c
pop_left [] l [] = refl
pop_left [] l (x ∷ []) = pop_first l x (byte l x)
pop_left [] l (x ∷ (y ∷ c)) = pop_first l x (byte l x)
pop_left (a ∷ at) l [] = refl
pop_left (a ∷ at) l (x ∷ c) = ap (λ b. cond (eqb x a) b (ltb a x)) (pop_left at l c)

-- one label on: the child itself is behind, and what is behind the child is
pub child_left : (at : List ℕ) (f l : ℕ) → f ≤ l → is_left at (Some f) (at ++ l ∷ []) ≡ true
child_left [] f l h = le-leb f l h
child_left (a ∷ at) f l h = rw (eq-eqb a a refl) (child_left at f l h)

past_push_by : (at c : List ℕ) (l a x : ℕ) (g : Option ℕ) → Byte a x
    → (is_left at None c ≡ true → is_left (at ++ l ∷ []) g c ≡ true)
    → cond (eqb x a) (is_left at None c) (ltb a x) ≡ true
    → cond (eqb x a) (is_left (at ++ l ∷ []) g c) (ltb a x) ≡ true
past_push_by at c l a x g (same p e) ih h = rw p (ih (rw p at h))
past_push_by at c l a x g (less p r m) ih h = rw (p, r) refl
past_push_by at c l a x g (more p r m) ih h = absurd (let z = rw (p, r) at h in clash z)

-- past all that goes on from the bytes is past all that goes on from more of them
pub past_push : (at c : List ℕ) (l : ℕ) (g : Option ℕ) → is_left at None c ≡ true
    → is_left (at ++ l ∷ []) g c ≡ true
past_push [] [] l g h = absurd (clash h)
past_push [] (x ∷ c) l g h = absurd (clash h)
past_push (a ∷ at) [] l g h = absurd (clash h)
past_push (a ∷ at) (x ∷ c) l g h = past_push_by at c l a x g (byte a x) (past_push at c l g) h

pub further_left : (at rest : List ℕ) (l x : ℕ) → l < x
    → is_left (at ++ l ∷ []) (Some 0) (at ++ x ∷ rest) ≡ true
further_left [] rest l x h = rw (ne_eqb x l (λ e. omega (arith, e, h)), lt-ltb l x h) refl
further_left (a ∷ at) rest l x h = rw (eq-eqb a a refl) (further_left at rest l x h)

pub deeper_left : (at rest : List ℕ) (l y : ℕ)
    → is_left (at ++ l ∷ []) (Some 0) (at ++ l ∷ (y ∷ rest)) ≡ true
deeper_left [] rest l y = rw (eq-eqb l l refl) (le-leb 0 y (omega arith))
deeper_left (a ∷ at) rest l y = rw (eq-eqb a a refl) (deeper_left at rest l y)
