-- Entries of one start, entries under one another, and what marks say of entries.
use Rattle.std.proofs.Common.{drop, ◌≡◌, ◌≤◌, ℕ, Bool, true, false, cond, nat_eq, ◌&&◌, List, []}
use Rattle.std.proofs.Common.{◌∷◌, ◌++◌, length, refl, sym, ap, ◌∙◌, arith}
use Rattle.std.specs.Cmp.Lexicographic.{slice_cmp}
use Rattle.std.specs.FinMap.{nat_cmp-IsAntisymmetric, slice_cmp-IsAntisymmetric}
use Rattle.std.specs.Ordering.{nat_cmp, ordering_then, ordering_reverse, is_lt, is_le}
use Rattle.std.specs.declared.cmp.Ordering.{Ordering}
use Rattle.std.specs.declared.cmp.Ordering.TheVariants.{Less, Equal, Greater}
use Rattle.std.proofs.lemmas.Bool.{eq-eqb}
use Rattle.std.proofs.lemmas.Bool.Decides.{nat_tests}
use Rattle.sg_base.specs.ByteStrings.{begins}
use Rattle.sg_base.specs.Cuts.{mark, mark_cmp, mark_cmp_total}
use Rattle.sg_base.proofs.MarkLemmas.{mark_lt}
use Rattle.fst_walk.proofs.BeginLemmas.{begins_split}
use Rattle.path_desk.specs.Entries.{Queued, key_part, rest_part, entry_cmp, entry_cmp_total}
use Rattle.path_desk.specs.Entries.{mark_of}
use Rattle.path_desk.proofs.Lex.{split_same, key_grows}
use Rattle.path_desk.proofs.OrderLemmas.{entry_lt, ties}

apart_at : (o : Ordering) (t b : Bool) (a c : Ordering) → (o ≡ Equal → t ≡ true)
    → is_lt (ordering_then o a) ≡ true → (t && b) ≡ false
    → (b ≡ false → is_lt a ≡ true → is_lt c ≡ true) → is_lt (ordering_then o c) ≡ true
apart_at Less t b a c e l n more = refl
apart_at Equal t b a c e l n more = let e' = e refl in more (rw e' at n) l
apart_at Greater t b a c e l n more = l

same_number : (x y : ℕ) → nat_cmp x y ≡ Equal → nat_eq x y ≡ true
same_number x y e = grind (arith, nat_tests)

-- where neither begins the other, what follows changes no order
pub apart : (xs ys us vs : List ℕ) → is_lt (slice_cmp nat_cmp xs ys) ≡ true → begins xs ys ≡ false
    → is_lt (slice_cmp nat_cmp (xs ++ us) (ys ++ vs)) ≡ true
apart [] ys us vs l n = cc
apart (x ∷ xs) [] us vs l n = cc
apart (x ∷ xs) (y ∷ ys) us vs l n =
    apart_at (nat_cmp x y) (nat_eq x y) (begins xs ys) (slice_cmp nat_cmp xs ys)
    (slice_cmp nat_cmp (xs ++ us) (ys ++ vs)) (same_number x y) l n
    (λ n' l'. apart xs ys us vs l' n')

join4 : (o1 o2 o3 o4 c : Ordering) → o3 ≡ Equal → ordering_then o2 o4 ≡ c
    → ordering_then (ordering_then (ordering_then o1 o2) o3) o4 ≡ ordering_then o1 c
join4 Less o2 o3 o4 c e f = refl
join4 Equal Less o3 o4 c e f = f
join4 Equal Equal Equal o4 c e f = f
join4 Equal Equal Less o4 c e f = cc
join4 Equal Equal Greater o4 c e f = cc
join4 Equal Greater o3 o4 c e f = f
join4 Greater o2 o3 o4 c e f = refl

-- within a start: score, then all bytes
pub within_start : (a b : Queued) → a.entry.start ≡ b.entry.start
    → entry_cmp a b ≡ ordering_then (nat_cmp b.entry.score a.entry.score)
    (slice_cmp nat_cmp a.bytes b.bytes)
within_start a b e =
    join4 (nat_cmp b.entry.score a.entry.score)
    (slice_cmp nat_cmp (key_part a.bytes) (key_part b.bytes))
    (nat_cmp a.entry.start b.entry.start)
    (slice_cmp nat_cmp (rest_part a.bytes) (rest_part b.bytes)) _
    (ties a.entry.start b.entry.start e) (split_same a.bytes b.bytes)

grown_at : (o o' c c' : Ordering) → (o ≡ Less → o' ≡ Less) → (o ≡ Equal → is_le o' ≡ true)
    → is_lt (ordering_then o c) ≡ true → (is_lt c ≡ true → is_lt c' ≡ true)
    → is_lt (ordering_then o' c') ≡ true
grown_at Less o' c c' f g l more = let e = f refl in rw e refl
grown_at Equal Less c c' f g l more = refl
grown_at Equal Equal c c' f g l more = more l
grown_at Equal Greater c c' f g l more = absurd (cc (g refl))
grown_at Greater o' c c' f g l more = absurd (cc l)

scores_equal_to : (a a' b b' : ℕ) → a' ≡ a → b' ≤ b → nat_cmp b a ≡ Less → nat_cmp b' a' ≡ Less
scores_equal_to a a' b b' e l h = grind (arith, nat_tests)

scores_equal_or : (a a' b b' : ℕ) → a' ≡ a → b' ≤ b → nat_cmp b a ≡ Equal
    → is_le (nat_cmp b' a') ≡ true
scores_equal_or a a' b b' e l h = grind (arith, nat_tests)

-- an entry before another of its start that it doesn't begin: what lies under it with its score
-- stands before what lies under
-- the other
pub stays_before : (a b a' b' : Queued) (us vs : List ℕ) → a.entry.start ≡ b.entry.start
    → a'.entry.start ≡ a.entry.start → b'.entry.start ≡ b.entry.start
    → a'.bytes ≡ a.bytes ++ us → b'.bytes ≡ b.bytes ++ vs → a'.entry.score ≡ a.entry.score
    → b'.entry.score ≤ b.entry.score
    → begins a.bytes b.bytes ≡ false → entry_lt a b ≡ true → entry_lt a' b' ≡ true
stays_before a b a' b' us vs s sa sb ba bb ca cb n h =
    let h' = rw (within_start a b s) at h in
    let grow : is_lt (slice_cmp nat_cmp a.bytes b.bytes) ≡ true
    → is_lt (slice_cmp nat_cmp a'.bytes b'.bytes) ≡ true =
    λ k. rw (ba, bb) (apart a.bytes b.bytes us vs k n) in
    rw (within_start a' b' (sa ∙ s ∙ sym sb))
    (grown_at (nat_cmp b.entry.score a.entry.score) (nat_cmp b'.entry.score a'.entry.score)
    (slice_cmp nat_cmp a.bytes b.bytes) (slice_cmp nat_cmp a'.bytes b'.bytes)
    (scores_equal_to a.entry.score a'.entry.score b.entry.score b'.entry.score ca cb)
    (scores_equal_or a.entry.score a'.entry.score b.entry.score b'.entry.score ca cb) h' grow)

-- marks

front_le : (o t r : Ordering) → is_lt (ordering_then (ordering_then o t) r) ≡ true
    → is_lt (ordering_reverse o) ≡ false
front_le Less t r h = refl
front_le Equal t r h = refl
front_le Greater t r h = cc

-- an entry's mark isn't after that of an entry behind it
pub mark_of-below : (a b : Queued) → entry_lt a b ≡ true → mark_lt (mark_of b) (mark_of a) ≡ false
mark_of-below a b h =
    ap is_lt (mark_cmp_total.antisymm (mark_of b) (mark_of a))
    ∙ front_le (mark_cmp (mark_of a) (mark_of b)) (nat_cmp a.entry.start b.entry.start)
    (slice_cmp nat_cmp (rest_part a.bytes) (rest_part b.bytes)) h

le_then : (o k : Ordering) → is_le o ≡ true → is_le k ≡ true → is_le (ordering_then o k) ≡ true
le_then Less k p q = refl
le_then Equal k p q = q
le_then Greater k p q = cc

le_reversed : (o : Ordering) → is_le o ≡ true → is_lt (ordering_reverse o) ≡ false
le_reversed Less h = refl
le_reversed Equal h = refl
le_reversed Greater h = cc

le_score : (a b : ℕ) → a ≤ b → is_le (nat_cmp a b) ≡ true
le_score a b h = grind (arith, nat_tests)

-- a mark with no greater score and more key bytes isn't before
pub mark_grows : (score score' : ℕ) (key more : List ℕ) → score' ≤ score
    → is_le (slice_cmp nat_cmp key more) ≡ true
    → mark_lt (mark score' more) (mark score key) ≡ false
mark_grows score score' key more l g =
    ap is_lt (mark_cmp_total.antisymm (mark score' more) (mark score key))
    ∙ le_reversed _ (le_then (nat_cmp score' score) (slice_cmp nat_cmp key more)
    (le_score score' score l) g)

pub mark_of-under : (p e : Queued) (us : List ℕ) → e.bytes ≡ p.bytes ++ us
    → e.entry.score ≤ p.entry.score → mark_lt (mark_of e) (mark_of p) ≡ false
mark_of-under p e us b l =
    let grows : is_le (slice_cmp nat_cmp (key_part p.bytes) (key_part e.bytes)) ≡ true =
    rw b (key_grows p.bytes us) in
    mark_grows p.entry.score e.entry.score (key_part p.bytes) (key_part e.bytes) l grows

-- entries that tie

neither_at : (o : Ordering) → is_lt o ≡ false → is_lt (ordering_reverse o) ≡ false → o ≡ Equal
neither_at Less p q = cc
neither_at Equal p q = refl
neither_at Greater p q = cc

each_ties : (o p : Ordering) → ordering_then o p ≡ Equal → (o ≡ Equal) × (p ≡ Equal)
each_ties Less p h = cc
each_ties Equal p h = (refl, h)
each_ties Greater p h = cc

both_tie : (o p : Ordering) → o ≡ Equal → p ≡ Equal → ordering_then o p ≡ Equal
both_tie Less p e f = cc
both_tie Equal p e f = f
both_tie Greater p e f = cc

-- entries of which neither is before the other have one start and the same bytes
pub tied_entries : (a b : Queued) → entry_lt a b ≡ false → entry_lt b a ≡ false
    → (a.entry.start ≡ b.entry.start) × (a.bytes ≡ b.bytes)
tied_entries a b p q =
    let e : entry_cmp a b ≡ Equal =
    neither_at (entry_cmp a b) p (sym (ap is_lt (entry_cmp_total.antisymm b a)) ∙ q) in
    let by_rest = each_ties _ (slice_cmp nat_cmp (rest_part a.bytes) (rest_part b.bytes)) e in
    let by_start = each_ties _ (nat_cmp a.entry.start b.entry.start) by_rest.0 in
    let by_key = each_ties (nat_cmp b.entry.score a.entry.score)
    (slice_cmp nat_cmp (key_part a.bytes) (key_part b.bytes)) by_start.0 in (
      nat_cmp-IsAntisymmetric a.entry.start b.entry.start by_start.1,
      slice_cmp-IsAntisymmetric nat_cmp-IsAntisymmetric a.bytes b.bytes
          (sym (split_same a.bytes b.bytes) ∙ both_tie _ _ by_key.1 by_rest.1),
    )

-- the rest of bytes that begin so
pub begun_rest : (a c : List ℕ) → begins a c ≡ true → (us : List ℕ) × (c ≡ a ++ us)
begun_rest a c h = (drop (length a) c, begins_split a c h)

-- key bytes of what lies under begin with the key bytes
pub begins-key_part : (p us : List ℕ) → begins (key_part p) (key_part (p ++ us)) ≡ true
begins-key_part [] us = refl
begins-key_part (x ∷ p) us = at (nat_eq x 0) (begins-key_part p us)
  where
    at : (z : Bool) → begins (key_part p) (key_part (p ++ us)) ≡ true
        → begins (cond z [] (x ∷ key_part p)) (cond z [] (x ∷ key_part (p ++ us))) ≡ true
    at true h = refl
    at false h = let e = eq-eqb x x refl in rw e h
