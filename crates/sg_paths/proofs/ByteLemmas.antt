-- The order of bytes behind equal fronts, behind ends, and of numbers.
use Rattle.std.proofs.Common.{◌≡◌, ◌≤◌, ◌<◌, ◌+◌, ◌*◌, ◌/◌, ◌%◌, ℕ, Bool, true, false}
use Rattle.std.proofs.Common.{not, ◌&&◌, cond}
use Rattle.std.proofs.Common.{List, [], ◌∷◌, ◌++◌, length, refl, sym, ◌∙◌, arith, eqb}
use Rattle.std.proofs.Common.{eq-eqb, ltb}
use Rattle.std.specs.Int.{w32, to_be_bytes}
use Rattle.sg_base.specs.ByteStrings.{is_less, lacks}
use Rattle.sg_base.proofs.ByteStringLemmas.{Byte, same, less, more, byte}
use Rattle.std.proofs.lemmas.Bool.{ne_eqb, lt-ltb, eqb-false}

pub front_less : (h x y : List ℕ) → is_less (h ++ x) (h ++ y) ≡ is_less x y
front_less [] x y = refl
front_less (a ∷ h) x y = rw (eq-eqb a a refl) (front_less h x y)

lacks_at : (x b : ℕ) (bs : List ℕ) (t : Bool) → eqb b x ≡ t → (not t && lacks x bs) ≡ true
    → (b ≡ x → ⊥) × (lacks x bs ≡ true)
lacks_at x b bs true e h = cc
lacks_at x b bs false e h = (eqb-false b x e, h)

pub lacks_parts : (x b : ℕ) (bs : List ℕ) → lacks x (b ∷ bs) ≡ true
    → (b ≡ x → ⊥) × (lacks x bs ≡ true)
lacks_parts x b bs h = lacks_at x b bs (eqb b x) refl h

clash : false ≡ true → ⊥
clash e = cc

-- of texts with an end that stands in neither
ends_by : (t a b : ℕ) (c d x y : List ℕ) → Byte a b
    → cond (eqb b a) (is_less (c ++ t ∷ []) (d ++ t ∷ [])) (ltb a b) ≡ true
    → (is_less (c ++ t ∷ []) (d ++ t ∷ []) ≡ true → is_less (c ++ t ∷ x) (d ++ t ∷ y) ≡ true)
    → cond (eqb b a) (is_less (c ++ t ∷ x) (d ++ t ∷ y)) (ltb a b) ≡ true
ends_by t a b c d x y (same p e) h ih = rw p (ih (rw p at h))
ends_by t a b c d x y (less p q k) h ih = rw (p, q) refl
ends_by t a b c d x y (more p q k) h ih = absurd (let z = rw (p, q) at h in clash z)

end_first : (t b : ℕ) (m n : Bool) → Byte t b → (b ≡ t → ⊥) → cond (eqb b t) m (ltb t b) ≡ true
    → cond (eqb b t) n (ltb t b) ≡ true
end_first t b m n (same p e) k h = absurd (k (sym e))
end_first t b m n (less p q l) k h = rw (p, q) refl
end_first t b m n (more p q l) k h = absurd (let z = rw (p, q) at h in clash z)

pub ends_less : (t : ℕ) (c d x y : List ℕ) → lacks t c ≡ true → lacks t d ≡ true
    → is_less (c ++ t ∷ []) (d ++ t ∷ []) ≡ true
    → is_less (c ++ t ∷ x) (d ++ t ∷ y) ≡ true
ends_less t [] [] x y p q h = absurd (clash (sym (front_less (t ∷ []) [] []) ∙ h))
ends_less t [] (b ∷ d) x y p q h =
    end_first t b (is_less [] (d ++ t ∷ [])) (is_less x (d ++ t ∷ y)) (byte t b)
    (lacks_parts t b d q).0 h
ends_less t (a ∷ c) [] x y p q h =
    end_first a t (is_less (c ++ t ∷ []) []) (is_less (c ++ t ∷ x) y) (byte a t)
    (λ e. (lacks_parts t a c p).0 (sym e)) h
ends_less t (a ∷ c) (b ∷ d) x y p q h =
    ends_by t a b c d x y (byte a b) h
    (ends_less t c d x y (lacks_parts t a c p).1 (lacks_parts t b d q).1)

-- of texts with the least byte as their end, which stands in neither
keys_by : (a b : ℕ) (k l x y : List ℕ) → Byte a b → cond (eqb b a) (is_less k l) (ltb a b) ≡ true
    → (is_less k l ≡ true → is_less (k ++ 0 ∷ x) (l ++ 0 ∷ y) ≡ true)
    → cond (eqb b a) (is_less (k ++ 0 ∷ x) (l ++ 0 ∷ y)) (ltb a b) ≡ true
keys_by a b k l x y (same p e) h ih = rw p (ih (rw p at h))
keys_by a b k l x y (less p q m) h ih = rw (p, q) refl
keys_by a b k l x y (more p q m) h ih = absurd (let z = rw (p, q) at h in clash z)

key_first : (b : ℕ) (n : Bool) → (b ≡ 0 → ⊥) → cond (eqb b 0) n (ltb 0 b) ≡ true
key_first b n k = let pos : 0 < b = omega (arith, k) in rw (ne_eqb b 0 k, lt-ltb 0 b pos) refl

pub keys_less : (k l x y : List ℕ) → lacks 0 k ≡ true → lacks 0 l ≡ true → is_less k l ≡ true
    → is_less (k ++ 0 ∷ x) (l ++ 0 ∷ y) ≡ true
keys_less [] [] x y p q h = absurd (clash h)
keys_less [] (b ∷ l) x y p q h = key_first b (is_less x (l ++ 0 ∷ y)) (lacks_parts 0 b l q).0
keys_less (a ∷ k) [] x y p q h = absurd (clash h)
keys_less (a ∷ k) (b ∷ l) x y p q h =
    keys_by a b k l x y (byte a b) h
    (keys_less k l x y (lacks_parts 0 a k p).1 (lacks_parts 0 b l q).1)

-- of numbers of four bytes
four_by : (a b : ℕ) (m : Bool) → Byte a b → a ≤ b → (a ≡ b → m ≡ true)
    → cond (eqb b a) m (ltb a b) ≡ true
four_by a b m (same p e) h f = rw p (f e)
four_by a b m (less p q l) h f = rw (p, q) refl
four_by a b m (more p q l) h f = absurd (omega (arith, h, l))

pub four_less : (a3 a2 a1 a0 b3 b2 b1 b0 : ℕ) → a2 < 256 → a1 < 256 → a0 < 256 → b2 < 256 → b1 < 256
    → b0 < 256
    → a3 * 16777216 + a2 * 65536 + a1 * 256 + a0 < b3 * 16777216 + b2 * 65536 + b1 * 256 + b0
    → is_less (a3 ∷ (a2 ∷ (a1 ∷ (a0 ∷ [])))) (b3 ∷ (b2 ∷ (b1 ∷ (b0 ∷ [])))) ≡ true
four_less a3 a2 a1 a0 b3 b2 b1 b0 p2 p1 p0 q2 q1 q0 h =
    four_by a3 b3 _ (byte a3 b3) (omega (arith, p2, p1, p0, q2, q1, q0, h)) (λ e3.
    four_by a2 b2 _ (byte a2 b2) (omega (arith, p2, p1, p0, q2, q1, q0, h, e3)) (λ e2.
    four_by a1 b1 _ (byte a1 b1) (omega (arith, p2, p1, p0, q2, q1, q0, h, e3, e2)) (λ e1.
    four_by a0 b0 _ (byte a0 b0) (omega (arith, p2, p1, p0, q2, q1, q0, h, e3, e2, e1)) (λ e0.
    absurd (omega (arith, h, e3, e2, e1, e0))))))

parts : (n : ℕ) → n < 4294967296
    → (n / 16777216 % 256) * 16777216 + (n / 65536 % 256) * 65536 + (n / 256 % 256) * 256 + n % 256
    ≡ n
parts n k = omega (arith, k)

pub number_less : (m n : ℕ) → m < n → n < 4294967296
    → is_less (to_be_bytes w32 m) (to_be_bytes w32 n) ≡ true
number_less m n h k =
    four_less (m / 16777216 % 256) (m / 65536 % 256) (m / 256 % 256) (m % 256)
    (n / 16777216 % 256) (n / 65536 % 256) (n / 256 % 256) (n % 256)
    (omega arith) (omega arith) (omega arith) (omega arith) (omega arith) (omega arith)
    (let a = parts m (omega (arith, h, k)) in let b = parts n k in omega (arith, a, b, h))

-- as long, and less
longer_by : (x y : ℕ) (m n : Bool) → Byte x y → (m ≡ true → n ≡ true)
    → cond (eqb y x) m (ltb x y) ≡ true → cond (eqb y x) n (ltb x y) ≡ true
longer_by x y m n (same p e) f h = rw p (f (rw p at h))
longer_by x y m n (less p q l) f h = rw (p, q) refl
longer_by x y m n (more p q l) f h = absurd (let z = rw (p, q) at h in clash z)

pub longer_less : (xs ys z : List ℕ) → length xs ≡ length ys → is_less xs ys ≡ true
    → is_less (xs ++ z) ys ≡ true
longer_less [] [] z e h = absurd (clash h)
longer_less [] (y ∷ ys) z e h = absurd (omega (arith, e))
longer_less (x ∷ xs) [] z e h = absurd (omega (arith, e))
longer_less (x ∷ xs) (y ∷ ys) z e h =
    longer_by x y (is_less xs ys) (is_less (xs ++ z) ys) (byte x y)
    (longer_less xs ys z (omega (arith, e))) h
