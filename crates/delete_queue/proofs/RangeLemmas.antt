-- The deletes in a range of numbers are those of consecutive operations.
use Rattle.std.proofs.Common.{◌≡◌, ◌<◌, ◌≤◌, ◌+◌, ◌-◌, ◌⊎◌, inl, inr, ℕ, zero, suc, Bool}
use Rattle.std.proofs.Common.{true, false, ◌&&◌, List, [], ◌∷◌, ◌++◌, length, take, drop, cond, map}
use Rattle.std.proofs.Common.{refl, sym, ap, ◌∙◌, arith}
use Rattle.std.specs.Prelude.{filter, nat_lt, nat_le}
use Rattle.std.proofs.lemmas.Bool.Decides.{nat_tests}
use Rattle.std.proofs.lemmas.List.{drop_all, take_all, length-drop, length-map}
use Rattle.std.proofs.lemmas.List.{take-map, drop-map}
use Rattle.std.proofs.lemmas.List.Elements.{filter-append}
use Rattle.sg_paths.specs.declared.op.Op.{Op}
use Rattle.sg_paths.specs.Operations.{PlainOp, adds, updates, deletes, plain_op}
use Rattle.delete_queue.specs.Deletes.{NumberedDelete, delete_of, deletes_from, is_between}
use Rattle.delete_queue.specs.Ranges.{at_most}

-- a number that is reached in another way
pub deletes_at : (m n : ℕ) (ops : List PlainOp) → m ≡ n → deletes_from m ops ≡ deletes_from n ops
deletes_at m n ops e = ap (λ (k : ℕ). deletes_from k ops) e

-- one operation is in the range or not
in_range : (a u n : ℕ) (op : PlainOp) (b : Bool) → (nat_lt a n && nat_le n u) ≡ b
    → filter (is_between a u) (delete_of n op) ≡ cond b (delete_of n op) []
in_range a u n (adds d) true e = refl
in_range a u n (adds d) false e = refl
in_range a u n (updates d) true e = rw e refl
in_range a u n (updates d) false e = rw e refl
in_range a u n (deletes id) true e = rw e refl
in_range a u n (deletes id) false e = rw e refl

-- one operation more in front
one_more : (a u n : ℕ) (op : PlainOp) (ops : List PlainOp) (rest : List NumberedDelete) (b : Bool)
    → (nat_lt a n && nat_le n u) ≡ b
    → filter (is_between a u) (deletes_from (n + 1) ops) ≡ rest
    → filter (is_between a u) (deletes_from n (op ∷ ops)) ≡ cond b (delete_of n op) [] ++ rest
one_more a u n op ops rest b is e =
    filter-append (is_between a u) (delete_of n op) (deletes_from (n + 1) ops)
    ∙ ap (λ (zs : List NumberedDelete). zs ++ filter (is_between a u) (deletes_from (n + 1) ops))
    (in_range a u n op b is)
    ∙ ap (λ (zs : List NumberedDelete). cond b (delete_of n op) [] ++ zs) e

none_taken : {X : Type 0} (lo count : ℕ) → take count (drop {A = X} lo []) ≡ []
none_taken zero zero = refl
none_taken zero (suc count) = refl
none_taken (suc lo) zero = refl
none_taken (suc lo) (suc count) = refl

-- those over a and at most u are behind the first lo and so many
pub between_slice : (a u n lo count : ℕ) (ops : List PlainOp)
    → lo ≡ a + 1 - n → count ≡ u + 1 - (n + lo)
    → filter (is_between a u) (deletes_from n ops)
    ≡ deletes_from (n + lo) (take count (drop lo ops))
between_slice a u n lo count [] p q =
    sym (ap (λ (ops : List PlainOp). deletes_from (n + lo) ops) (none_taken lo count))
between_slice a u n zero zero (x ∷ xs) p q =
    one_more a u n x xs [] false (grind (arith, nat_tests, p, q))
    (between_slice a u (n + 1) zero zero xs (omega (arith, p)) (omega (arith, q)))
between_slice a u n zero (suc count) (x ∷ xs) p q =
    one_more a u n x xs (deletes_from (n + 1 + 0) (take count xs)) true
    (grind (arith, nat_tests, p, q))
    (between_slice a u (n + 1) zero count xs (omega (arith, p)) (omega (arith, q)))
    ∙ ap (λ (zs : List NumberedDelete). delete_of n x ++ zs)
    (deletes_at (n + 1 + 0) (n + 1) (take count xs) (omega arith))
    ∙ deletes_at n (n + 0) (x ∷ take count xs) (omega arith)
between_slice a u n (suc lo) count (x ∷ xs) p q =
    one_more a u n x xs (deletes_from (n + 1 + lo) (take count (drop lo xs))) false
    (grind (arith, nat_tests, p))
    (between_slice a u (n + 1) lo count xs (omega (arith, p)) (omega (arith, q)))
    ∙ deletes_at (n + 1 + lo) (n + suc lo) (take count (drop lo xs)) (omega arith)

-- which of two numbers is the lesser
pub lesser : (most n : ℕ)
    → ((at_most most n ≡ most) × (most ≤ n)) ⊎ ((at_most most n ≡ n) × (n ≤ most))
lesser most n = by_cases (nat_lt most n) refl
  where
    by_cases : (b : Bool) → nat_lt most n ≡ b
        → ((cond b most n ≡ most) × (most ≤ n)) ⊎ ((cond b most n ≡ n) × (n ≤ most))
    by_cases true e = inl (refl, grind (arith, nat_tests, e))
    by_cases false e = inr (refl, grind (arith, nat_tests, e))

-- the deletes of a slice of the operations, between two counts that their number bounds
pub slice_between : (a u n : ℕ) (ops : List PlainOp) (low high : ℕ)
    → low ≡ at_most (length ops) (a + 1 - n) → high ≡ at_most (length ops) (u + 1 - n) → low < high
    → filter (is_between a u) (deletes_from n ops)
    ≡ deletes_from (n + low) (take (high - low) (drop low ops))
slice_between a u n ops low high p q h =
    by_cases (lesser (length ops) (a + 1 - n)) (lesser (length ops) (u + 1 - n))
  where
    by_cases :
        ((at_most (length ops) (a + 1 - n) ≡ length ops) × (length ops ≤ a + 1 - n))
        ⊎ ((at_most (length ops) (a + 1 - n) ≡ a + 1 - n) × (a + 1 - n ≤ length ops))
        → ((at_most (length ops) (u + 1 - n) ≡ length ops) × (length ops ≤ u + 1 - n))
        ⊎ ((at_most (length ops) (u + 1 - n) ≡ u + 1 - n) × (u + 1 - n ≤ length ops))
        → filter (is_between a u) (deletes_from n ops)
        ≡ deletes_from (n + low) (take (high - low) (drop low ops))
    by_cases (inl l) (inl r) = absurd (omega (arith, p ∙ l.0, q ∙ r.0, h))
    by_cases (inl l) (inr r) = absurd (omega (arith, p ∙ l.0, q ∙ r.0, r.1, h))
    by_cases (inr l) (inr r) =
        between_slice a u n low (high - low) ops (p ∙ l.0)
        (omega (arith, p ∙ l.0, q ∙ r.0, h))
    by_cases (inr l) (inl r) =
        let rest = length-drop low ops in
        between_slice a u n low (u + 1 - (n + low)) ops (p ∙ l.0) refl
        ∙ ap (λ (xs : List PlainOp). deletes_from (n + low) xs)
        (take_all (u + 1 - (n + low)) (drop low ops)
        (omega (arith, rest, p ∙ l.0, q ∙ r.0, r.1, h))
        ∙ sym (take_all (high - low) (drop low ops) (omega (arith, rest, q ∙ r.0))))

none_between : (a u n lo count : ℕ) (ops : List PlainOp) → lo ≡ a + 1 - n
    → count ≡ u + 1 - (n + lo) → (take count (drop lo ops) ≡ [])
    → filter (is_between a u) (deletes_from n ops) ≡ []
none_between a u n lo count ops p q e =
    between_slice a u n lo count ops p q ∙ ap (λ (xs : List PlainOp). deletes_from (n + lo) xs) e

-- none where the counts leave no slice
pub outside : (a u n : ℕ) (ops : List PlainOp) (low high : ℕ)
    → low ≡ at_most (length ops) (a + 1 - n) → high ≡ at_most (length ops) (u + 1 - n)
    → high ≤ low → filter (is_between a u) (deletes_from n ops) ≡ []
outside a u n ops low high p q h =
    by_cases (lesser (length ops) (a + 1 - n)) (lesser (length ops) (u + 1 - n))
  where
    all_known : length ops ≤ a + 1 - n → filter (is_between a u) (deletes_from n ops) ≡ []
    all_known l =
        let e = drop_all (a + 1 - n) ops l in
        none_between a u n (a + 1 - n) (u + 1 - (n + (a + 1 - n))) ops refl refl
        (ap (λ (xs : List PlainOp). take (u + 1 - (n + (a + 1 - n))) xs) e
        ∙ none_taken 0 (u + 1 - (n + (a + 1 - n))))

    by_cases :
        ((at_most (length ops) (a + 1 - n) ≡ length ops) × (length ops ≤ a + 1 - n))
        ⊎ ((at_most (length ops) (a + 1 - n) ≡ a + 1 - n) × (a + 1 - n ≤ length ops))
        → ((at_most (length ops) (u + 1 - n) ≡ length ops) × (length ops ≤ u + 1 - n))
        ⊎ ((at_most (length ops) (u + 1 - n) ≡ u + 1 - n) × (u + 1 - n ≤ length ops))
        → filter (is_between a u) (deletes_from n ops) ≡ []
    by_cases (inl l) r = all_known l.1
    by_cases (inr l) (inl r) = all_known (omega (arith, p ∙ l.0, q ∙ r.0, h))
    by_cases (inr l) (inr r) =
        none_between a u n (a + 1 - n) 0 ops refl (omega (arith, p ∙ l.0, q ∙ r.0, h)) refl

-- the same as the code slices its operations
pub pushed_slice : (a u n : ℕ) (raw : List Op) (low high : ℕ)
    → low ≡ at_most (length raw) (a + 1 - n) → high ≡ at_most (length raw) (u + 1 - n)
    → low < high
    → deletes_from (n + low) (map plain_op (take (high - low) (drop low raw)))
    ≡ filter (is_between a u) (deletes_from n (map plain_op raw))
pushed_slice a u n raw low high p q h =
    let count = length-map raw plain_op in
    let at : length raw ≡ length (map plain_op raw) = sym count in
    ap (λ (ops : List PlainOp). deletes_from (n + low) ops)
    (sym (take-map plain_op (high - low) (drop low raw))
    ∙ ap (λ (ops : List PlainOp). take (high - low) ops) (sym (drop-map plain_op low raw)))
    ∙ sym (slice_between a u n (map plain_op raw) low high
    (p ∙ ap (λ (k : ℕ). at_most k (a + 1 - n)) at)
    (q ∙ ap (λ (k : ℕ). at_most k (u + 1 - n)) at) h)

pub outside_slice : (a u n : ℕ) (raw : List Op) (low high : ℕ)
    → low ≡ at_most (length raw) (a + 1 - n) → high ≡ at_most (length raw) (u + 1 - n)
    → high ≤ low → filter (is_between a u) (deletes_from n (map plain_op raw)) ≡ []
outside_slice a u n raw low high p q h =
    let count = length-map raw plain_op in
    let at : length raw ≡ length (map plain_op raw) = sym count in
    outside a u n (map plain_op raw) low high
    (p ∙ ap (λ (k : ℕ). at_most k (a + 1 - n)) at)
    (q ∙ ap (λ (k : ℕ). at_most k (u + 1 - n)) at) h
