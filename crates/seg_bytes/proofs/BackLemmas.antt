-- Fields that were written are read back, and what stands one after another.
use Rattle.std.proofs.Common.{◌≡◌, ◌<◌, ◌+◌, ◌^◌, ℕ, Bool, true, List, [], ◌∷◌}
use Rattle.std.proofs.Common.{◌++◌, length, take, drop, refl, sym, ap, ◌∙◌, arith}
use Rattle.std.proofs.Common.{append_assoc, add-zero}
use Rattle.std.proofs.lemmas.Bool.{le-leb}
use Rattle.std.proofs.lemmas.List.{length-append, take_at, drop_at}
use Rattle.std.proofs.lemmas.Nat.{from_be_bytes-to_be_bytes_2, from_be_bytes-to_be_bytes_4}
use Rattle.std.proofs.lemmas.Nat.{from_be_bytes-to_be_bytes_8}
use Rattle.std.specs.Prelude.{nat_le, if◌then◌else◌}
use Rattle.std.specs.List.{AllByRecursion, flat_map}
use Rattle.std.specs.Int.{Width, w8, w16, w32, w64, byte_len, from_be_bytes, to_be_bytes}
use Rattle.seg_bytes.specs.Fields.{Reader, reads, broken, then_read, part_at, number_at}
use Rattle.seg_bytes.specs.Fields.{text_at, tested, many_at}
use Rattle.seg_bytes.specs.DocumentBytes.{short_bytes}
use Rattle.seg_bytes.specs.Laws.{IsReadBack}
use Rattle.seg_bytes.proofs.ReadingLemmas.{then_is, number_is, tested_is}

-- where the bytes stand, said by equations
stands : {A : Type 0} (read : Reader A) (b : List ℕ) (x : A) → IsReadBack read b x
    → (whole before after : List ℕ) (at end : ℕ) → whole ≡ before ++ (b ++ after)
    → at ≡ length before → end ≡ at + length b → read whole at ≡ reads x end
stands read b x back whole before after at end w a e =
    ap (λ bytes. read bytes at) w ∙ ap (read (before ++ (b ++ after))) a ∙ back before after
    ∙ ap (λ n. reads x (n + length b)) (sym a) ∙ ap (reads x) (sym e)

-- one after another
pub both : {A B : Type 0} (one : Reader A) (next : A → Reader B) (b c : List ℕ) (x : A) (y : B)
    → IsReadBack one b x → IsReadBack (next x) c y
    → IsReadBack (λ bytes at. then_read (one bytes at) (λ v end. next v bytes end)) (b ++ c) y
both one next b c x y h k before after =
    let whole = before ++ ((b ++ c) ++ after) in
    let first : whole ≡ before ++ (b ++ (c ++ after)) =
    ap (λ z. before ++ z) (append_assoc b c after) in
    let second : whole ≡ (before ++ b) ++ (c ++ after) =
    first ∙ sym (append_assoc before b (c ++ after)) in
    let front : length before + length b ≡ length (before ++ b) = sym (length-append before b) in
    let all : length before + length (b ++ c) ≡ length before + length b + length c =
    (let l = length-append b c in omega (arith, l)) in
    then_is (one whole (length before)) x (length before + length b)
    (λ v end. next v whole end)
    (stands one b x h whole before (c ++ after) (length before) (length before + length b) first
    refl refl)
    ∙ stands (next x) c y k whole (before ++ b) after (length before + length b)
    (length before + length (b ++ c)) second front all

-- with a function of what was read
pub with_result : {A B : Type 0} (read : Reader A) (f : A → B) (b : List ℕ) (x : A)
    → IsReadBack read b x
    → IsReadBack (λ bytes at. then_read (read bytes at) (λ y end. reads (f y) end)) b (f x)
with_result read f b x h before after =
    ap (λ g. then_read g (λ y end. reads (f y) end)) (h before after)

-- a part
pub part_back : (start : ℕ) (t : List ℕ) → IsReadBack (part_at start (length t)) t t
unfolding part_at
part_back start t before after =
    let whole = before ++ (t ++ after) in
    let enough : nat_le (length before + length t) (length whole) ≡ true =
    (let l = length-append before (t ++ after) in let m = length-append t after in
    le-leb (length before + length t) (length whole) (omega (arith, l, m))) in
    let part : take (length t) (drop (length before) whole) ≡ t =
    ap (take (length t)) (drop_at before (t ++ after) (length before) refl)
    ∙ take_at t after (length t) refl in
    ap (λ b. if b then reads (take (length t) (drop (length before) whole))
    (length before + length t) else broken start) enough
    ∙ ap (λ z. reads z (length before + length t)) part

-- a number
number_back : (w : Width) (v : ℕ) (b : List ℕ) → length b ≡ byte_len w → v ≡ from_be_bytes w b
    → IsReadBack (number_at w) b v
number_back w v b len is before after =
    number_is w (before ++ (b ++ after)) (length before) b (length before + length b) v
    (ap (λ n. part_at (length before) n (before ++ (b ++ after)) (length before)) (sym len)
    ∙ part_back (length before) b before after) is

pub number_1 : (v : ℕ) → v < 256 → IsReadBack (number_at w8) (v ∷ []) v
number_1 v h = number_back w8 v (v ∷ []) refl refl

pub number_2 : (v : ℕ) → v < 2 ^ 16 → IsReadBack (number_at w16) (to_be_bytes w16 v) v
number_2 v h =
    number_back w16 v (to_be_bytes w16 v) refl (sym (from_be_bytes-to_be_bytes_2 v h))

pub number_4 : (v : ℕ) → v < 2 ^ 32 → IsReadBack (number_at w32) (to_be_bytes w32 v) v
number_4 v h =
    number_back w32 v (to_be_bytes w32 v) refl (sym (from_be_bytes-to_be_bytes_4 v h))

pub number_8 : (v : ℕ) → v < 2 ^ 64 → IsReadBack (number_at w64) (to_be_bytes w64 v) v
number_8 v h =
    number_back w64 v (to_be_bytes w64 v) refl (sym (from_be_bytes-to_be_bytes_8 v h))

-- bytes behind their length
text_back : (w : Width) (t b : List ℕ) → IsReadBack (number_at w) b (length t)
    → IsReadBack (text_at w) (b ++ t) t
unfolding text_at
text_back w t b h before after =
    let whole = before ++ ((b ++ t) ++ after) in
    let first : whole ≡ before ++ (b ++ (t ++ after)) =
    ap (λ z. before ++ z) (append_assoc b t after) in
    let second : whole ≡ (before ++ b) ++ (t ++ after) =
    first ∙ sym (append_assoc before b (t ++ after)) in
    let all : length before + length (b ++ t) ≡ length before + length b + length t =
    (let l = length-append b t in omega (arith, l)) in
    then_is (number_at w whole (length before)) (length t) (length before + length b) _
    (stands (number_at w) b (length t) h whole before (t ++ after) (length before)
    (length before + length b) first refl refl)
    ∙ stands (part_at (length before) (length t)) t t (part_back (length before) t) whole
    (before ++ b) after (length before + length b) (length before + length (b ++ t)) second
    (sym (length-append before b)) all

pub text_1 : (t : List ℕ) → length t < 256 → IsReadBack (text_at w8) (short_bytes t) t
text_1 t h = text_back w8 t (length t ∷ []) (number_1 (length t) h)

pub text_2 : (t : List ℕ) → length t < 2 ^ 16
    → IsReadBack (text_at w16) (to_be_bytes w16 (length t) ++ t) t
text_2 t h = text_back w16 t (to_be_bytes w16 (length t)) (number_2 (length t) h)

-- a field that passes its test
pub tested_back : {A : Type 0} (test : A → Bool) (read : Reader A) (b : List ℕ) (x : A)
    → test x ≡ true → IsReadBack read b x → IsReadBack (tested test read) b x
tested_back test read b x passes h before after =
    tested_is test read (before ++ (b ++ after)) (length before) x (length before + length b)
    (h before after) passes

-- so many
pub many_back : {A : Type 0} (read : Reader A) (by : A → List ℕ) (xs : List A)
    → AllByRecursion (λ x. IsReadBack read (by x) x) xs
    → IsReadBack (many_at read (length xs)) (flat_map by xs) xs
unfolding many_at
many_back read by [] a = λ before after. ap (reads []) (sym (add-zero (length before)))
many_back read by (x ∷ xs) a =
    both read (λ y bytes at. then_read (many_at read (length xs) bytes at)
    (λ ys end. reads (y ∷ ys) end)) (by x) (flat_map by xs) x (x ∷ xs) a.0
    (with_result (many_at read (length xs)) (λ ys. x ∷ ys) (flat_map by xs) xs
    (many_back read by xs a.1))
