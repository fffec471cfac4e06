-- The order of byte strings is that of slices, and what they begin with.
use Rattle.std.proofs.Common.{◌≡◌, ◌<◌, ℕ, true, false, ◌&&◌, cond, ◌⊎◌, inl, inr}
use Rattle.std.proofs.Common.{List, [], ◌∷◌, refl, sym, ap, arith}
use Rattle.std.proofs.Common.{eqb, eq-eqb, ltb}
use Rattle.std.specs.List.{starts_with}
use Rattle.std.specs.Cmp.Lexicographic.{slice_cmp}
use Rattle.std.specs.Ordering.{nat_cmp, is_lt, ordering_then}
use Rattle.std.specs.declared.cmp.Ordering.TheVariants.{Less, Equal, Greater}
use Rattle.std.proofs.lemmas.Bool.{cases_order, ne_eqb, lt-ltb, le-ltb}
use Rattle.sg_base.specs.ByteStrings.{begins, is_less}

-- three ways in which a byte can stand to another
pub data Byte (x y : ℕ) : Type 0 where
  same : eqb y x ≡ true → x ≡ y → Byte x y
  less : eqb y x ≡ false → ltb x y ≡ true → x < y → Byte x y
  more : eqb y x ≡ false → ltb x y ≡ false → y < x → Byte x y

byte_by : (x y : ℕ) → (x ≡ y) ⊎ ((x < y) ⊎ (y < x)) → Byte x y
byte_by x y (inl e) = same (eq-eqb y x (sym e)) e
byte_by x y (inr (inl h)) = less (ne_eqb y x (λ e. omega (arith, h, e))) (lt-ltb x y h) h
byte_by x y (inr (inr h)) =
    more (ne_eqb y x (λ e. omega (arith, h, e))) (le-ltb x y (omega arith)) h

pub byte : (x y : ℕ) → Byte x y
byte x y = byte_by x y (cases_order x y)

nat_less : (x y : ℕ) → x < y → nat_cmp x y ≡ Less
nat_less x y h = rw (lt-ltb x y h) refl

nat_same : (x y : ℕ) → x ≡ y → nat_cmp x y ≡ Equal
nat_same x y e = rw (le-ltb x y (omega (arith, e)), eq-eqb x y e) refl

nat_more : (x y : ℕ) → y < x → nat_cmp x y ≡ Greater
nat_more x y h = rw (le-ltb x y (omega (arith, h)), ne_eqb x y (λ e. omega (arith, e, h))) refl

slice_by : (x y : ℕ) (xs ys : List ℕ) → Byte x y
    → is_lt (slice_cmp nat_cmp xs ys) ≡ is_less xs ys
    → is_lt (ordering_then (nat_cmp x y) (slice_cmp nat_cmp xs ys))
    ≡ cond (eqb y x) (is_less xs ys) (ltb x y)
slice_by x y xs ys (same p e) ih = rw (nat_same x y e, p) ih
slice_by x y xs ys (less p q h) ih = rw (nat_less x y h, p, q) refl
slice_by x y xs ys (more p q h) ih = rw (nat_more x y h, p, q) refl

-- the order is that of slices
pub slice-less : (xs ys : List ℕ) → is_lt (slice_cmp nat_cmp xs ys) ≡ is_less xs ys
slice-less [] [] = refl
slice-less [] (y ∷ ys) = refl
slice-less (x ∷ xs) [] = refl
slice-less (x ∷ xs) (y ∷ ys) = slice_by x y xs ys (byte x y) (slice-less xs ys)

-- what slices start with is what they begin with
pub starts_with-begins : (p c : List ℕ) → starts_with eqb c p ≡ begins p c
starts_with-begins [] c = refl
starts_with-begins (a ∷ p) [] = refl
starts_with-begins (a ∷ p) (x ∷ c) = ap (λ b. eqb a x && b) (starts_with-begins p c)
