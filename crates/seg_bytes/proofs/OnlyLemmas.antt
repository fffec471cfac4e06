-- Fields that are read stand there as they are written.
use Rattle.std.proofs.Common.{◌≡◌, ◌≤◌, ◌<◌, ◌+◌, ℕ, zero, suc, Bool, true, false, List, []}
use Rattle.std.proofs.Common.{◌∷◌, ◌++◌, ⊎_elim, length, take, drop, get_or, refl, sym, ap}
use Rattle.std.proofs.Common.{◌∙◌, subst, arith, add-zero, Fits}
use Rattle.std.proofs.lemmas.Bool.{leb-true, cases_lt}
use Rattle.std.proofs.lemmas.List.{length-append, length-take-le, length-drop, get_or-take}
use Rattle.std.proofs.lemmas.List.{get_or-drop, drop-drop, take-append-drop, get_or_past}
use Rattle.std.proofs.lemmas.Nat.{be_bytes_2, be_bytes_4, be_bytes_8}
use Rattle.std.specs.Prelude.{nat_le, if◌then◌else◌}
use Rattle.std.specs.List.{flat_map}
use Rattle.std.specs.Int.{Width, w8, w16, w32, w64, byte_len, from_be_bytes, to_be_bytes}
use Rattle.seg_bytes.specs.Fields.{Reading, Reader, reads, broken, then_read, part_at, number_at}
use Rattle.seg_bytes.specs.Fields.{text_at, tested, many_at}
use Rattle.seg_bytes.specs.Laws.{StandsAt}

-- each is a byte
abbrev pub AreBytes : List ℕ → Type 0
AreBytes bytes = (i : ℕ) → get_or bytes i 0 < 256

-- those of a slice are
pub bytes_of : (bytes : List ℕ) → ((i : ℕ) → Fits w8 (get_or bytes i 0)) → AreBytes bytes
bytes_of bytes fits i = let h = fits i in omega (arith, h)

-- these bytes stand there, up to an end
abbrev pub Spans : List ℕ → ℕ → List ℕ → ℕ → Type 0
Spans part at bytes end = StandsAt part at bytes × (end ≡ at + length part)

-- what is read stands there as it is written
abbrev pub IsOnlyWritten : {A : Type 0} → Reader A → (A → List ℕ) → Type 0
IsOnlyWritten {A} read by =
    (bytes : List ℕ) (at : ℕ) (x : A) (end : ℕ) → AreBytes bytes → read bytes at ≡ reads x end
    → Spans (by x) at bytes end

-- what was read isn't broken, and is one value with one end
IsRead : {A : Type 0} → Reading A → Type 0
IsRead (reads x end) = Unit {0}
IsRead (broken at) = ⊥

pub not_broken : {A : Type 0} (at : ℕ) (x : A) (end : ℕ) → broken at ≡ reads x end → ⊥
unfolding IsRead
not_broken at x end h = subst IsRead (sym h) tt

value_or : {A : Type 0} → A → Reading A → A
value_or d (reads x end) = x
value_or d (broken at) = d

end_of : {A : Type 0} → Reading A → ℕ
end_of (reads x end) = end
end_of (broken at) = at

pub same_value : {A : Type 0} (x y : A) (m n : ℕ) → reads x m ≡ reads y n → x ≡ y
unfolding value_or
same_value x y m n h = ap (value_or x) h

pub same_end : {A : Type 0} (x y : A) (m n : ℕ) → reads x m ≡ reads y n → m ≡ n
unfolding end_of
same_end x y m n h = ap end_of h

-- both of two that are read
pub then_parts : {A B : Type 0} (given : Reading A) (next : A → ℕ → Reading B) (y : B) (end : ℕ)
    → then_read given next ≡ reads y end
    → (x : A) × ((mid : ℕ) × ((given ≡ reads x mid) × (next x mid ≡ reads y end)))
then_parts (reads x mid) next y end h = (x, (mid, (refl, h)))
then_parts (broken at) next y end h = absurd (not_broken at y end h)

-- bytes that stand one after another
take_over : (p q rest : List ℕ) → take (length (p ++ q)) (p ++ rest) ≡ p ++ take (length q) rest
take_over [] q rest = refl
take_over (x ∷ p) q rest = ap (λ z. x ∷ z) (take_over p q rest)

pub joined : (p q bytes : List ℕ) (at mid end : ℕ) → Spans p at bytes mid → Spans q mid bytes end
    → Spans (p ++ q) at bytes end
joined p q bytes at mid end h k =
    let split : drop at bytes ≡ p ++ drop mid bytes =
    sym (take-append-drop (length p) (drop at bytes))
    ∙ ap (λ z. z ++ drop (length p) (drop at bytes)) h.0
    ∙ ap (λ z. p ++ z) (drop-drop (length p) at bytes ∙ ap (λ n. drop n bytes) (sym h.1)) in
    let all : end ≡ at + length (p ++ q) =
    (let l = length-append p q in let a = h.1 in let b = k.1 in omega (arith, l, a, b)) in (
      ap (take (length (p ++ q))) split ∙ take_over p q (drop mid bytes) ∙ ap (λ z. p ++ z) k.0,
      all,
    )

-- a part
part_cases : (start n : ℕ) (bytes : List ℕ) (at : ℕ) (x : List ℕ) (end : ℕ) (fits : Bool)
    → nat_le (at + n) (length bytes) ≡ fits
    → (if fits then reads (take n (drop at bytes)) (at + n) else broken start) ≡ reads x end
    → Spans x at bytes end × (length x ≡ n)
part_cases start n bytes at x end true fits h =
    let is : take n (drop at bytes) ≡ x =
    same_value (take n (drop at bytes)) x (at + n) end h in
    let le = leb-true (at + n) (length bytes) fits in
    let left = length-drop at bytes in
    let enough : n ≤ length (drop at bytes) = omega (arith, le, left) in
    let len : length x ≡ n =
    ap length (sym is) ∙ length-take-le n (drop at bytes) enough in (
      (
        ap (λ m. take m (drop at bytes)) len ∙ is,
        sym (same_end (take n (drop at bytes)) x (at + n) end h) ∙ ap (λ m. at + m) (sym len),
      ),
      len,
    )
part_cases start n bytes at x end false fits h = absurd (not_broken start x end h)

pub part_only : (start n : ℕ) (bytes : List ℕ) (at : ℕ) (x : List ℕ) (end : ℕ)
    → part_at start n bytes at ≡ reads x end → Spans x at bytes end × (length x ≡ n)
unfolding part_at
part_only start n bytes at x end h =
    part_cases start n bytes at x end (nat_le (at + n) (length bytes)) refl h

-- the bytes of a part are bytes
part_bytes : (x : List ℕ) (at : ℕ) (bytes : List ℕ) → StandsAt x at bytes → AreBytes bytes
    → AreBytes x
part_bytes x at bytes h b i =
    ⊎_elim (λ less. subst (λ v. v < 256)
    (sym (ap (λ z. get_or z i 0) (sym h)
    ∙ get_or-take (length x) (drop at bytes) i 0 less ∙ get_or-drop at bytes i 0)) (b (at + i)))
    (λ past. subst (λ v. v < 256) (sym (get_or_past x i 0 past)) (omega arith))
    (cases_lt i (length x))

-- a number
number_only : (w : Width) (by : ℕ → List ℕ)
    → ((b : List ℕ) (n : ℕ) → length b ≡ byte_len w → AreBytes b → n ≡ from_be_bytes w b
    → by n ≡ b) → IsOnlyWritten (number_at w) by
unfolding number_at
number_only w by back bytes at n end are h =
    let parts = then_parts (part_at at (byte_len w) bytes at) _ n end h in
    let b = parts.0 in
    let mid = parts.1.0 in
    let part = part_only at (byte_len w) bytes at b mid parts.1.1.0 in
    let is : by n ≡ b = back b n part.1 (part_bytes b at bytes part.0.0 are)
    (sym (same_value (from_be_bytes w b) n mid end parts.1.1.1)) in
    subst (λ z. Spans z at bytes end) (sym is)
    (part.0.0, sym (same_end (from_be_bytes w b) n mid end parts.1.1.1) ∙ part.0.1)

one_byte : (b : List ℕ) (n : ℕ) → length b ≡ 1 → AreBytes b → n ≡ from_be_bytes w8 b → n ∷ [] ≡ b
one_byte [] n len are is = absurd (omega (arith, len))
one_byte (x ∷ []) n len are is = ap (λ z. z ∷ []) is
one_byte (x ∷ (y ∷ b)) n len are is = absurd (omega (arith, len))

pub only_1 : IsOnlyWritten (number_at w8) (λ n. n ∷ [])
only_1 = number_only w8 (λ n. n ∷ []) one_byte

pub only_2 : IsOnlyWritten (number_at w16) (to_be_bytes w16)
only_2 = number_only w16 (to_be_bytes w16) be_bytes_2

pub only_4 : IsOnlyWritten (number_at w32) (to_be_bytes w32)
only_4 = number_only w32 (to_be_bytes w32) be_bytes_4

pub only_8 : IsOnlyWritten (number_at w64) (to_be_bytes w64)
only_8 = number_only w64 (to_be_bytes w64) be_bytes_8

-- bytes behind their length
pub text_only : (w : Width) (by : ℕ → List ℕ) → IsOnlyWritten (number_at w) by
    → IsOnlyWritten (text_at w) (λ t. by (length t) ++ t)
unfolding text_at
text_only w by only bytes at t end are h =
    let parts = then_parts (number_at w bytes at) _ t end h in
    let n = parts.0 in
    let mid = parts.1.0 in
    let part = part_only at n bytes mid t end parts.1.1.1 in
    subst (λ m. Spans (by m ++ t) at bytes end) (sym part.1)
    (joined (by n) t bytes at mid end (only bytes at n mid are parts.1.1.0) part.0)

-- a field that passes its test
tested_cases : {A : Type 0} (passes : Bool) (x y : A) (mid at end : ℕ)
    → (if passes then reads x mid else broken at) ≡ reads y end → (x ≡ y) × (mid ≡ end)
tested_cases true x y mid at end h = (same_value x y mid end h, same_end x y mid end h)
tested_cases false x y mid at end h = absurd (not_broken at y end h)

pub tested_only : {A : Type 0} (test : A → Bool) (read : Reader A) (by : A → List ℕ)
    → IsOnlyWritten read by → IsOnlyWritten (tested test read) by
unfolding tested
tested_only test read by only bytes at y end are h =
    let parts = then_parts (read bytes at) _ y end h in
    let same = tested_cases (test parts.0) parts.0 y parts.1.0 at end parts.1.1.1 in
    only bytes at y end are
    (parts.1.1.0 ∙ ap (λ x. reads x parts.1.0) same.0 ∙ ap (reads y) same.1)

-- so many
pub many_only : {A : Type 0} (read : Reader A) (by : A → List ℕ) → IsOnlyWritten read by → (n : ℕ)
    (bytes : List ℕ) (at : ℕ) (xs : List A) (end : ℕ) → AreBytes bytes
    → many_at read n bytes at ≡ reads xs end
    → Spans (flat_map by xs) at bytes end × (length xs ≡ n)
unfolding many_at
many_only read by only zero bytes at xs end are h =
    subst (λ ys. Spans (flat_map by ys) at bytes end × (length ys ≡ 0))
    (same_value [] xs at end h)
    ((refl, sym (same_end [] xs at end h) ∙ sym (add-zero at)), refl)
many_only read by only (suc n) bytes at xs end are h =
    let first = then_parts (read bytes at) _ xs end h in
    let x = first.0 in
    let next = first.1.0 in
    let rest = then_parts (many_at read n bytes next) _ xs end first.1.1.1 in
    let ys = rest.0 in
    let last = rest.1.0 in
    let behind = many_only read by only n bytes next ys last are rest.1.1.0 in
    let all = joined (by x) (flat_map by ys) bytes at next last
    (only bytes at x next are first.1.1.0) behind.0 in
    let len = behind.1 in
    subst (λ zs. Spans (flat_map by zs) at bytes end × (length zs ≡ suc n))
    (same_value (x ∷ ys) xs last end rest.1.1.1)
    ((all.0, sym (same_end (x ∷ ys) xs last end rest.1.1.1) ∙ all.1), ap suc len)
