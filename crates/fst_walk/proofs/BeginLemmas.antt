-- What byte strings begin with.
use Rattle.sg_base.specs.ByteStrings.{begins}
use Rattle.std.proofs.Common.{◌≡◌, ◌≤◌, ℕ, zero, suc, Bool, true, false, ◌&&◌, List, [], ◌∷◌}
use Rattle.std.proofs.Common.{◌++◌, length, refl, sym, ap, ◌∙◌, arith, eqb, eq-eqb, drop, take}
use Rattle.std.proofs.Common.{eqb-true}
use Rattle.std.proofs.lemmas.Bool.{and_parts}
use Rattle.fst_walk.proofs.BoolLemmas.{clash}

longer_at : (t a b : Bool) → (a ≡ false → b ≡ false) → (t && a) ≡ false → (t && b) ≡ false
longer_at true a b f e = f e
longer_at false a b f e = refl

-- more bytes begin fewer paths
pub longer : (p q bs : List ℕ) → begins p bs ≡ false → begins (p ++ q) bs ≡ false
longer [] q bs e = cc
longer (a ∷ p) q [] e = refl
longer (a ∷ p) q (b ∷ bs) e = longer_at (eqb a b) (begins p bs) (begins (p ++ q) bs) (longer p q bs)
    e

itself_at : (b c : Bool) → b ≡ true → (b && c) ≡ c
itself_at true c e = refl
itself_at false c e = cc

pub begins-cancel : (p q bs : List ℕ) → begins (p ++ q) (p ++ bs) ≡ begins q bs
begins-cancel [] q bs = refl
begins-cancel (a ∷ p) q bs =
    itself_at (eqb a a) (begins (p ++ q) (p ++ bs)) (eq-eqb a a refl) ∙ begins-cancel p q bs

begins_at : (a x : ℕ) (p c : List ℕ) (t : Bool) → eqb a x ≡ t
    → (begins p c ≡ true → c ≡ p ++ drop (length p) c)
    → (t && begins p c) ≡ true → x ∷ c ≡ a ∷ (p ++ drop (length p) c)
begins_at a x p c true e ih h = ap (λ z. z ∷ c) (sym (eqb-true a x e)) ∙ ap (λ z. a ∷ z) (ih h)
begins_at a x p c false e ih h = absurd (clash h)

pub begins_split : (p c : List ℕ) → begins p c ≡ true → c ≡ p ++ drop (length p) c
begins_split [] c h = refl
begins_split (a ∷ p) [] h = absurd (clash h)
begins_split (a ∷ p) (x ∷ c) h = begins_at a x p c (eqb a x) refl (begins_split p c) h

pub itself_and : (t b : Bool) → t ≡ true → b ≡ true → (t && b) ≡ true
itself_and true b e f = f
itself_and false b e f = cc

pub begins-append : (p q : List ℕ) → begins p (p ++ q) ≡ true
begins-append [] q = refl
begins-append (a ∷ p) q = itself_and (eqb a a) (begins p (p ++ q)) (eq-eqb a a refl)
    (begins-append p q)

pub begins_length : (s c : List ℕ) → begins s c ≡ true → length s ≤ length c
begins_length [] c h = omega arith
begins_length (x ∷ s) [] h = absurd (clash h)
begins_length (x ∷ s) (y ∷ c) h = let a = and_parts _ _ h in let ih =
    begins_length s c a.1 in omega (arith, ih)

pub begins_trans : (p r c : List ℕ) → begins p r ≡ true → begins r c ≡ true → begins p c ≡ true
begins_trans [] r c h k = refl
begins_trans (x ∷ p) [] c h k = absurd (clash h)
begins_trans (x ∷ p) (y ∷ r) [] h k = absurd (clash k)
begins_trans (x ∷ p) (y ∷ r) (z ∷ c) h k =
    let a = and_parts (eqb x y) (begins p r) h in
    let b = and_parts (eqb y z) (begins r c) k in
    rw (eq-eqb x z (eqb-true x y a.0 ∙ eqb-true y z b.0)) (begins_trans p r c a.1 b.1)

pub begins_itself : (c : List ℕ) → begins c c ≡ true
begins_itself [] = refl
begins_itself (x ∷ c) = rw (eq-eqb x x refl) (begins_itself c)

pub begins_take : (n : ℕ) (xs ys : List ℕ) → begins (take n xs) (xs ++ ys) ≡ true
begins_take zero xs ys = refl
begins_take (suc n) [] ys = refl
begins_take (suc n) (x ∷ xs) ys = rw (eq-eqb x x refl) (begins_take n xs ys)
