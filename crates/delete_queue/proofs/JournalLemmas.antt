-- What is deleted through an operation, and what the deletes since reach.
use Rattle.std.proofs.Common.{◌≡◌, ◌≤◌, ◌+◌, ◌-◌, ℕ, zero, suc, Bool, true, false, ◌&&◌, ◌||◌}
use Rattle.std.proofs.Common.{List, [], ◌∷◌, ◌++◌, length, take, drop, refl, sym, ap, ◌∙◌}
use Rattle.std.proofs.Common.{arith}
use Rattle.std.specs.Prelude.{filter, nat_lt, bytes_eq}
use Rattle.std.specs.List.{flat_map, list_any}
use Rattle.std.proofs.lemmas.Bool.Decides.{nat_tests}
use Rattle.std.proofs.lemmas.List.{append_assoc, take-append-drop}
use Rattle.std.proofs.lemmas.List.Elements.{filter-append}
use Rattle.std.proofs.lemmas.List.Folds.{list_any-append}
use Rattle.sg_paths.specs.Operations.{PlainOp, adds, updates, deletes, PlainNumbered, PlainBatch}
use Rattle.sg_paths.specs.LiveDocuments.{deletes_id, is_deleted}
use Rattle.delete_queue.specs.Deletes.{NumberedDelete, delete_of, deletes_from, deletes_between}
use Rattle.delete_queue.specs.Deletes.{is_between, reaches}
use Rattle.sg_paths.specs.Batches.{AreConsecutive, Cover}
use Rattle.delete_queue.specs.JournalDeletes.{DeletesSinceComplete}
use Rattle.delete_queue.proofs.RangeLemmas.{between_slice, deletes_at}

-- ---- the batches as one list

deletes-append : (n : ℕ) (xs ys : List PlainOp)
    → deletes_from n (xs ++ ys) ≡ deletes_from n xs ++ deletes_from (n + length xs) ys
deletes-append n [] ys = deletes_at n (n + length {A = PlainOp} []) ys (omega arith)
deletes-append n (x ∷ xs) ys =
    ap (λ (es : List NumberedDelete). delete_of n x ++ es)
    (deletes-append (n + 1) xs ys
    ∙ ap (λ (es : List NumberedDelete). deletes_from (n + 1) xs ++ es)
    (deletes_at (n + 1 + length xs) (n + length (x ∷ xs)) ys (omega arith)))
    ∙ sym (append_assoc (delete_of n x) (deletes_from (n + 1) xs)
    (deletes_from (n + length (x ∷ xs)) ys))

one_list : (a u n : ℕ) (bs : List PlainBatch) → AreConsecutive n bs
    → deletes_between a u bs
    ≡ filter (is_between a u) (deletes_from n (flat_map (λ b. b.operations) bs))
one_list a u n [] numbered = refl
one_list a u n (b ∷ bs) numbered =
    let rest = flat_map (λ (b : PlainBatch). b.operations) bs in
    ap (λ (m : ℕ). filter (is_between a u) (deletes_from m b.operations) ++ deletes_between a u bs)
    numbered.0
    ∙ ap (λ (es : List NumberedDelete). filter (is_between a u) (deletes_from n b.operations) ++ es)
    (one_list a u (n + length b.operations) bs numbered.1)
    ∙ sym (filter-append (is_between a u) (deletes_from n b.operations)
    (deletes_from (n + length b.operations) rest))
    ∙ ap (filter (is_between a u)) (sym (deletes-append n b.operations rest))

-- ---- slices of a journal

drop_twice : {X : Type 0} (j n m : ℕ) (xs : List X) → n + j ≡ m
    → drop j (drop n xs) ≡ drop m xs
drop_twice j zero m xs e = let is : j ≡ m = omega (arith, e) in ap (λ (k : ℕ). drop k xs) is
drop_twice zero (suc n) zero [] e = refl
drop_twice (suc j) (suc n) zero [] e = refl
drop_twice zero (suc n) (suc m) [] e = refl
drop_twice (suc j) (suc n) (suc m) [] e = refl
drop_twice j (suc n) zero (x ∷ xs) e = absurd (omega (arith, e))
drop_twice j (suc n) (suc m) (x ∷ xs) e = drop_twice j n m xs (omega (arith, e))

take_twice : {X : Type 0} (a u : ℕ) (xs : List X) → a ≤ u → take a (take u xs) ≡ take a xs
take_twice zero u xs h = refl
take_twice (suc a) zero xs h = absurd (omega (arith, h))
take_twice (suc a) (suc u) [] h = refl
take_twice (suc a) (suc u) (x ∷ xs) h =
    ap (λ zs. x ∷ zs) (take_twice a u xs (omega (arith, h)))

cut : {X : Type 0} (c a u last : ℕ) (xs : List X) → a + c ≡ u → u ≤ last
    → take c (drop a (take last xs)) ≡ drop a (take u xs)
cut c zero u last xs e h =
    let is : c ≡ u = omega (arith, e) in
    ap (λ (k : ℕ). take k (take last xs)) is ∙ take_twice u last xs h
cut c (suc a) zero last xs e h = absurd (omega (arith, e))
cut c (suc a) (suc u) zero xs e h = absurd (omega (arith, h))
cut zero (suc a) (suc u) (suc last) [] e h = refl
cut (suc c) (suc a) (suc u) (suc last) [] e h = refl
cut c (suc a) (suc u) (suc last) (x ∷ xs) e h =
    cut c a u last xs (omega (arith, e)) (omega (arith, h))

-- what is behind n is behind it among the first a, or among the others
split_behind : {X : Type 0} (n a j : ℕ) (xs : List X) → j ≡ n - a
    → drop n xs ≡ drop n (take a xs) ++ drop j (drop a xs)
split_behind zero a j xs e =
    let is : 0 ≡ j = omega (arith, e) in
    sym (take-append-drop a xs) ∙ ap (λ (k : ℕ). take a xs ++ drop k (drop a xs)) is
split_behind (suc n) zero j xs e =
    let is : suc n ≡ j = omega (arith, e) in ap (λ (k : ℕ). drop k xs) is
split_behind (suc n) (suc a) zero [] e = refl
split_behind (suc n) (suc a) (suc j) [] e = refl
split_behind (suc n) (suc a) j (x ∷ xs) e = split_behind n a j xs (omega (arith, e))

-- the deletes of the batches are those of the journal
between_is : (journal : List PlainOp) (s a u last : ℕ) (bs : List PlainBatch)
    → Cover journal s last bs → s ≤ a → a ≤ u → u ≤ last
    → deletes_between a u bs ≡ deletes_from (a + 1) (drop a (take u journal))
between_is journal s a u last bs covered h k l =
    let whole = drop s (take last journal) in
    one_list a u (s + 1) bs covered.numbered
    ∙ ap (λ (ops : List PlainOp). filter (is_between a u) (deletes_from (s + 1) ops))
    covered.operations
    ∙ between_slice a u (s + 1) (a - s) (u - a) whole (omega (arith, h))
    (omega (arith, h, k))
    ∙ deletes_at (s + 1 + (a - s)) (a + 1) (take (u - a) (drop (a - s) whole)) (omega (arith, h))
    ∙ ap (λ (ops : List PlainOp). deletes_from (a + 1) ops)
    (ap (take (u - a)) (drop_twice (a - s) s a (take last journal) (omega (arith, h)))
    ∙ cut (u - a) a u last journal (omega (arith, k)) l)

-- ---- the operations that delete a document

one_reaches : (n : ℕ) (op : PlainOp) (d : PlainNumbered) (b : Bool) → nat_lt d.seq n ≡ b
    → list_any (reaches d) (delete_of n op) ≡ (deletes_id d.document.id op && b)
one_reaches n (adds x) d b e = refl
one_reaches n (updates x) d b e = rw e (or_nothing (bytes_eq d.document.id x.id && b))
  where
    or_nothing : (c : Bool) → (c || false) ≡ c
    or_nothing true = refl
    or_nothing false = refl
one_reaches n (deletes id) d b e = rw e (or_nothing (bytes_eq d.document.id id && b))
  where
    or_nothing : (c : Bool) → (c || false) ≡ c
    or_nothing true = refl
    or_nothing false = refl

and_true : (b : Bool) → (b && true) ≡ b
and_true true = refl
and_true false = refl

and_false : (b : Bool) → (b && false) ≡ false
and_false true = refl
and_false false = refl

-- deletes reach a document from its own number on
reached_behind : (n j : ℕ) (ops : List PlainOp) (d : PlainNumbered) → j ≡ d.seq + 1 - n
    → list_any (reaches d) (deletes_from n ops) ≡ list_any (deletes_id d.document.id) (drop j ops)
reached_behind n zero [] d e = refl
reached_behind n (suc j) [] d e = refl
reached_behind n zero (x ∷ xs) d e =
    list_any-append (reaches d) (delete_of n x) (deletes_from (n + 1) xs)
    ∙ ap (λ (b : Bool). b || list_any (reaches d) (deletes_from (n + 1) xs))
    (one_reaches n x d true (grind (arith, nat_tests, e)) ∙ and_true (deletes_id d.document.id x))
    ∙ ap (λ (b : Bool). deletes_id d.document.id x || b)
    (reached_behind (n + 1) zero xs d (omega (arith, e)))
reached_behind n (suc j) (x ∷ xs) d e =
    list_any-append (reaches d) (delete_of n x) (deletes_from (n + 1) xs)
    ∙ ap (λ (b : Bool). b || list_any (reaches d) (deletes_from (n + 1) xs))
    (one_reaches n x d false (grind (arith, nat_tests, e)) ∙ and_false (deletes_id d.document.id x))
    ∙ reached_behind (n + 1) j xs d (omega (arith, e))

pub deletes_since : DeletesSinceComplete
deletes_since journal s a u last bs d covered h k l =
    let first = take u journal in
    let gone = list_any (deletes_id d.document.id) in
    ap gone (split_behind d.seq a (d.seq - a) first refl)
    ∙ list_any-append (deletes_id d.document.id) (drop d.seq (take a first))
    (drop (d.seq - a) (drop a first))
    ∙ ap (λ (ops : List PlainOp). gone (drop d.seq ops) || gone (drop (d.seq - a) (drop a first)))
    (take_twice a u journal k)
    ∙ ap (λ (b : Bool). is_deleted journal a d || b)
    (sym (reached_behind (a + 1) (d.seq - a) (drop a first) d (omega arith))
    ∙ ap (list_any (reaches d)) (sym (between_is journal s a u last bs covered h k l)))
