-- The bits of words, and what clearing one does to the live docs.
use Rattle.std.proofs.Common.{◌≡◌, ◌≤◌, ◌<◌, ◌+◌, ◌*◌, ◌/◌, ◌%◌, ◌^◌, ℕ, zero, suc, Bool, true}
use Rattle.std.proofs.Common.{false, not, ◌&&◌, ◌||◌, ◌==◌, cond, ◌⊎◌, inl, inr}
use Rattle.std.proofs.Common.{List, [], ◌∷◌, ◌++◌, length, refl, sym, ap, ◌∙◌, arith, get_or}
use Rattle.std.proofs.Common.{set, bit_and, replicate, nat_eq, eq-eqb, add-zero}
use Rattle.std.specs.Int.{bit_at, bit_not, w64}
use Rattle.std.specs.List.{list_any}
use Rattle.std.proofs.lemmas.Bool.{cases_eq, ne_eqb}
use Rattle.std.proofs.Common.{Option, Some, None}
use Rattle.std.specs.Option.{IfSome}
use Rattle.std.proofs.lemmas.List.{get_or-set_same, get_or-set_other, length-replicate}
use Rattle.std.proofs.lemmas.Nat.Bits.{bit_at_clear_same, bit_at_clear_other, bit_at_ones}
use Rattle.seg_live.specs.LiveDocs.{live_count, live_without}
use Rattle.seg_live.specs.Bits.{is_set, bits_from, bits_or_all}

-- a word with a bit cleared
abbrev pub cleared_word : ℕ → ℕ → ℕ
cleared_word word k = bit_and word (bit_not w64 (1 * 2 ^ k % 2 ^ 64))

-- all set
pub bits_all : (words : List ℕ) (n k : ℕ) → ((i : ℕ) → i < n + k → is_set words i ≡ true)
    → bits_from words n k ≡ replicate k true
bits_all words n zero h = refl
bits_all words n (suc k) h =
    ap (λ b. b ∷ bits_from words (n + 1) k) (h n (omega arith))
    ∙ ap (λ ms. true ∷ ms) (bits_all words (n + 1) k (λ i l. h i (omega (arith, l))))

pub count_all : (k : ℕ) → live_count (replicate k true) ≡ k
count_all zero = refl
count_all (suc k) = let h = count_all k in omega (arith, h)

pub word_full : (words : List ℕ) (i : ℕ) → get_or words (i / 64) 0 ≡ 18446744073709551615
    → is_set words i ≡ true
word_full words i e =
    ap (λ w. bit_at w (i % 64) == 1) e ∙ ap (λ b. b == 1) (bit_at_ones 64 (i % 64) (omega arith))

pub length_bits : (words : List ℕ) (n k : ℕ) → length (bits_from words n k) ≡ k
length_bits words n zero = refl
length_bits words n (suc k) = ap suc (length_bits words (n + 1) k)

pub bit_is : (words : List ℕ) (n k i : ℕ) (b : Bool) → i < k
    → get_or (bits_from words n k) i b ≡ is_set words (n + i)
bit_is words n zero i b h = absurd (omega (arith, h))
bit_is words n (suc k) zero b h = ap (is_set words) (sym (add-zero n))
bit_is words n (suc k) (suc i) b h =
    bit_is words (n + 1) k i b (omega (arith, h)) ∙ ap (is_set words) (omega arith)

pub bit_below : (live : List Bool) (words : List ℕ) (n doc : ℕ) → live ≡ bits_from words 0 n
    → doc < length live → doc < n
bit_below live words n doc is h =
    let l = ap (λ (bits : List Bool). length bits) is ∙ length_bits words 0 n in omega (arith, l, h)

-- bits that differ as the live docs without some places
pub bits_less : (old new places : List ℕ) (n k : ℕ)
    → ((i : ℕ) → i < n + k → is_set new i ≡ (is_set old i && not (list_any (nat_eq i) places)))
    → bits_from new n k ≡ live_without n places (bits_from old n k)
bits_less old new places n zero h = refl
bits_less old new places n (suc k) h =
    ap (λ b. b ∷ bits_from new (n + 1) k) (h n (omega arith))
    ∙ ap (λ ms. (is_set old n && not (list_any (nat_eq n) places)) ∷ ms)
    (bits_less old new places (n + 1) k (λ i l. h i (omega (arith, l))))

-- the same bits from a place on
pub set_same : (old new : List ℕ) (n k : ℕ)
    → ((i : ℕ) → n ≤ i → i < n + k → is_set new i ≡ is_set old i)
    → live_count (bits_from new n k) ≡ live_count (bits_from old n k)
set_same old new n zero h = refl
set_same old new n (suc k) h =
    ap (λ b. cond b 1 0 + live_count (bits_from new (n + 1) k)) (h n (omega arith) (omega arith))
    ∙ ap (λ m. cond (is_set old n) 1 0 + m)
    (set_same old new (n + 1) k (λ i g l. h i (omega (arith, g)) (omega (arith, l))))

one_less_by : (old new : List ℕ) (n k place : ℕ) → n ≤ place → place < n + suc k
    → is_set old place ≡ true → is_set new place ≡ false
    → ((i : ℕ) → i < n + suc k → (i ≡ place → ⊥) → is_set new i ≡ is_set old i)
    → ((n ≡ place → ⊥)
    → live_count (bits_from old (n + 1) k) ≡ live_count (bits_from new (n + 1) k) + 1)
    → (n ≡ place) ⊎ (n ≡ place → ⊥)
    → live_count (bits_from old n (suc k)) ≡ live_count (bits_from new n (suc k)) + 1
one_less_by old new n k place g l is gone h later (inl e) =
    let a : ◌≡◌ {A = ℕ} (cond (is_set old n) 1 0) 1 =
    ap (λ i. cond (is_set old i) 1 0) e ∙ ap (λ b. cond b 1 0) is in
    let b : ◌≡◌ {A = ℕ} (cond (is_set new n) 1 0) 0 =
    ap (λ i. cond (is_set new i) 1 0) e ∙ ap (λ b. cond b 1 0) gone in
    let rest =
    set_same old new (n + 1) k
    (λ i more less. h i (omega (arith, less)) (λ same. omega (arith, same, more, e))) in
    omega (arith, a, b, rest)
one_less_by old new n k place g l is gone h later (inr other) =
    let a : ◌≡◌ {A = ℕ} (cond (is_set new n) 1 0) (cond (is_set old n) 1 0) =
    ap (λ b. cond b 1 0) (h n (omega arith) other) in
    let rest = later other in
    omega (arith, a, rest)

one_less : (old new : List ℕ) (n k place : ℕ) → n ≤ place → place < n + k → is_set old place ≡ true
    → is_set new place ≡ false
    → ((i : ℕ) → i < n + k → (i ≡ place → ⊥) → is_set new i ≡ is_set old i)
    → live_count (bits_from old n k) ≡ live_count (bits_from new n k) + 1
one_less old new n zero place g l is gone h = absurd (omega (arith, g, l))
one_less old new n (suc k) place g l is gone h =
    one_less_by old new n k place g l is gone h
    (λ other. one_less old new (n + 1) k place (omega (arith, g, other)) (omega (arith, l)) is gone
    (λ i less. h i (omega (arith, less))))
    (cases_eq n place)

other_bit : (words : List ℕ) (place i : ℕ) (word : ℕ) → (i ≡ place → ⊥) → place / 64 < length words
    → word ≡ cleared_word (get_or words (place / 64) 0) (place % 64)
    → (i / 64 ≡ place / 64) ⊎ (i / 64 ≡ place / 64 → ⊥)
    → is_set (set words (place / 64) word) i ≡ is_set words i
other_bit words place i word other within is (inl same) =
    let here : get_or (set words (place / 64) word) (i / 64) 0 ≡ word =
    ap (λ k. get_or (set words (place / 64) word) k 0) same
    ∙ get_or-set_same words (place / 64) word 0 within in
    let apart : i % 64 ≡ place % 64 → ⊥ = λ e. other (omega (arith, e, same)) in
    ap (λ w. bit_at w (i % 64) == 1) (here ∙ is)
    ∙ ap (λ b. b == 1)
    (bit_at_clear_other w64 (get_or words (place / 64) 0) (place % 64) (omega arith) (i % 64)
    (omega arith) apart)
    ∙ ap (λ k. bit_at (get_or words k 0) (i % 64) == 1) (sym same)
other_bit words place i word other within is (inr far) =
    ap (λ w. bit_at w (i % 64) == 1) (get_or-set_other words (place / 64) (i / 64) word 0 far)

this_bit : (words : List ℕ) (place : ℕ) (word : ℕ) → place / 64 < length words
    → word ≡ cleared_word (get_or words (place / 64) 0) (place % 64)
    → is_set (set words (place / 64) word) place ≡ false
this_bit words place word within is =
    ap (λ w. bit_at w (place % 64) == 1) (get_or-set_same words (place / 64) word 0 within ∙ is)
    ∙ ap (λ b. b == 1)
    (bit_at_clear_same w64 (get_or words (place / 64) 0) (place % 64) (omega arith))

-- a test at one place
test_here : (b : Bool) (i : ℕ) → (b && not (nat_eq i i || false)) ≡ false
test_here b i = rw (eq-eqb i i refl) (by b)
  where
    by : (b : Bool) → (b && false) ≡ false
    by true = refl
    by false = refl

test_apart : (b : Bool) (i place : ℕ) → (i ≡ place → ⊥) → (b && not (nat_eq i place || false)) ≡ b
test_apart b i place other = rw (ne_eqb i place other) (by b)
  where
    by : (b : Bool) → (b && true) ≡ b
    by true = refl
    by false = refl

pointwise : (old new : List ℕ) (place i : ℕ) → is_set new place ≡ false
    → ((i ≡ place → ⊥) → is_set new i ≡ is_set old i)
    → (i ≡ place) ⊎ (i ≡ place → ⊥)
    → is_set new i ≡ (is_set old i && not (list_any (nat_eq i) (place ∷ [])))
pointwise old new place i gone same (inl e) =
    ap (is_set new) e ∙ gone ∙ sym (test_here (is_set old i) i)
    ∙ ap (λ j. is_set old i && not (nat_eq i j || false)) e
pointwise old new place i gone same (inr other) =
    same other ∙ sym (test_apart (is_set old i) i place other)

-- a place whose bit isn't set
pub bits_unset : (words : List ℕ) (place k : ℕ) → is_set words place ≡ false
    → bits_from words 0 k ≡ live_without 0 (place ∷ []) (bits_from words 0 k)
bits_unset words place k gone =
    bits_less words words (place ∷ []) 0 k
    (λ i l. pointwise words words place i gone (λ _. refl) (cases_eq i place))

-- a place whose bit was set
pub bits_cleared : (words : List ℕ) (place k word : ℕ) → place / 64 < length words
    → word ≡ cleared_word (get_or words (place / 64) 0) (place % 64)
    → bits_from (set words (place / 64) word) 0 k
    ≡ live_without 0 (place ∷ []) (bits_from words 0 k)
bits_cleared words place k word within is =
    let new = set words (place / 64) word in
    bits_less words new (place ∷ []) 0 k (λ i l.
    pointwise words new place i (this_bit words place word within is)
    (λ other. other_bit words place i word other within is (cases_eq (i / 64) (place / 64)))
    (cases_eq i place))

pub count_cleared : (words : List ℕ) (place k word : ℕ) → place / 64 < length words → place < k
    → is_set words place ≡ true
    → word ≡ cleared_word (get_or words (place / 64) 0) (place % 64)
    → live_count (bits_from words 0 k)
    ≡ live_count (bits_from (set words (place / 64) word) 0 k) + 1
count_cleared words place k word within below was is =
    one_less words (set words (place / 64) word) 0 k place (omega arith) (omega (arith, below)) was
    (this_bit words place word within is)
    (λ i l other. other_bit words place i word other within is (cases_eq (i / 64) (place / 64)))

-- without none, without more, and how many there are
pub without_none : (n : ℕ) (ms : List Bool) → live_without n [] ms ≡ ms
without_none n [] = refl
without_none n (true ∷ ms) = ap (λ z. true ∷ z) (without_none (n + 1) ms)
without_none n (false ∷ ms) = ap (λ z. false ∷ z) (without_none (n + 1) ms)

any_behind : (n : ℕ) (ps qs : List ℕ) (b : Bool)
    → ((b && not (list_any (nat_eq n) ps)) && not (list_any (nat_eq n) qs))
    ≡ (b && not (list_any (nat_eq n) (ps ++ qs)))
any_behind n ps qs false = refl
any_behind n [] qs true = refl
any_behind n (p ∷ ps) qs true = by (nat_eq n p) (any_behind n ps qs true)
  where
    by : (x : Bool)
        → (not (list_any (nat_eq n) ps) && not (list_any (nat_eq n) qs))
        ≡ not (list_any (nat_eq n) (ps ++ qs))
        → (not (x || list_any (nat_eq n) ps) && not (list_any (nat_eq n) qs))
        ≡ not (x || list_any (nat_eq n) (ps ++ qs))
    by true h = refl
    by false h = h

pub without_more : (n : ℕ) (ps qs : List ℕ) (ms : List Bool)
    → live_without n qs (live_without n ps ms) ≡ live_without n (ps ++ qs) ms
without_more n ps qs [] = refl
without_more n ps qs (m ∷ ms) =
    ap (λ b. b ∷ live_without (n + 1) qs (live_without (n + 1) ps ms)) (any_behind n ps qs m)
    ∙ ap (λ z. (m && not (list_any (nat_eq n) (ps ++ qs))) ∷ z) (without_more (n + 1) ps qs ms)

pub length_without : (n : ℕ) (ps : List ℕ) (ms : List Bool)
    → length (live_without n ps ms) ≡ length ms
length_without n ps [] = refl
length_without n ps (m ∷ ms) = ap suc (length_without (n + 1) ps ms)

-- there are as many live docs as documents, with bits or without
pub length_bits_or_all : (k : ℕ) (bits : Option (List Bool)) → IfSome bits (λ b. length b ≡ k)
    → length (bits_or_all k bits) ≡ k
length_bits_or_all k None h = length-replicate k true
length_bits_or_all k (Some bits) h = h
