-- A row goes to its place among rows in order: before those that it precedes, and in place of its
-- document's later one.
use Rattle.std.proofs.Common.{◌≡◌, ◌≤◌, ◌<◌, ◌-◌, inl, inr, ℕ, zero, suc, Bool, true}
use Rattle.std.proofs.Common.{false, cond, nat_eq, List, [], ◌∷◌, length}
use Rattle.std.proofs.Common.{refl, ap, arith}
use Rattle.std.specs.Prelude.{slice_index_or, insert, remove}
use Rattle.std.proofs.lemmas.Bool.Decides.{nat_tests}
use Rattle.sg_base.specs.Lists.{In}
use Rattle.sg_base.specs.declared.rank.Rank.{Rank}
use Rattle.sg_base.proofs.Orders.{below_trans}
use Rattle.sg_base.proofs.RankingLemmas.{rank_lt, ranks_ordered, Ascending, Once}
use Rattle.sg_base.specs.Rows.{without, put_row}
use Rattle.collector.specs.Places.{IsPlace}
use Rattle.collector.proofs.ListLemmas.{index-in}
use Rattle.collector.proofs.KeptLemmas.{Others, others_from, without-others}

-- the j-th row is of that document
abbrev pub SeqAt : ℕ → List Rank → ℕ → Type 0
SeqAt n [] j = ⊥
SeqAt n (x ∷ xs) zero = nat_eq x.seq n ≡ true
SeqAt n (x ∷ xs) (suc j) = SeqAt n xs j

tail_place : (r x : Rank) (xs : List Rank) (i : ℕ) → IsPlace r (x ∷ xs) (suc i) → IsPlace r xs i
tail_place r x xs i p = record {
  front = λ k d h. p.front (suc k) d (omega (arith, h));
  back = λ k d h l. p.back (suc k) d (omega (arith, h)) (omega (arith, l));
}

pub put_row-alone : (r : Rank) (xs : List Rank) (i : ℕ) → i ≤ length xs → IsPlace r xs i
    → Others r.seq xs → put_row r xs ≡ insert xs i r
put_row-alone r [] zero h p o = refl
put_row-alone r [] (suc i) h p o = absurd (omega arith)
put_row-alone r (x ∷ xs) zero h p o =
    let here : rank_lt x r ≡ false = p.back 0 x (omega arith) (omega arith) in
    rw here (ap (λ zs. r ∷ zs) (without-others r.seq (x ∷ xs) o))
put_row-alone r (x ∷ xs) (suc i) h p o =
    let here : rank_lt x r ≡ true = p.front 0 x (omega arith) in
    let other : nat_eq x.seq r.seq ≡ false = o.0 in
    rw (here, other) (ap (λ zs. x ∷ zs)
    (put_row-alone r xs i (omega arith) (tail_place r x xs i p) o.1))

same_either : (b : Bool) (x : Rank) (xs ys : List Rank) → ys ≡ xs
    → cond b (x ∷ xs) (x ∷ ys) ≡ x ∷ xs
same_either true x xs ys e = refl
same_either false x xs ys e = ap (λ zs. x ∷ zs) e

pub put_row-behind_own : (r : Rank) (xs : List Rank) (i j : ℕ) → j < i → i ≤ length xs
    → IsPlace r xs i → SeqAt r.seq xs j → put_row r xs ≡ xs
put_row-behind_own r [] i j l h p s = elim s [ ]
put_row-behind_own r (x ∷ xs) zero j l h p s = absurd (omega arith)
put_row-behind_own r (x ∷ xs) (suc i) zero l h p s =
    let here : rank_lt x r ≡ true = p.front 0 x (omega arith) in rw (here, s) refl
put_row-behind_own r (x ∷ xs) (suc i) (suc j) l h p s =
    let here : rank_lt x r ≡ true = p.front 0 x (omega arith) in
    rw here (same_either (nat_eq x.seq r.seq) x xs (put_row r xs)
    (put_row-behind_own r xs i j (omega arith) (omega arith) (tail_place r x xs i p) s))

pub same_number : (m n : ℕ) → nat_eq m n ≡ true → m ≡ n
same_number m n h = grind (arith, nat_tests)

seq_in : (n : ℕ) (xs : List Rank) (j : ℕ) → SeqAt n xs j
    → (y : Rank) × In y xs × (nat_eq y.seq n ≡ true)
seq_in n [] j s = elim s [ ]
seq_in n (x ∷ xs) zero s = (x, inl refl, s)
seq_in n (x ∷ xs) (suc j) s = let r = seq_in n xs j s in (r.0, inr r.1, r.2)

other_head : (a b n : ℕ) → nat_eq b n ≡ true → nat_eq a b ≡ false → nat_eq a n ≡ false
other_head a b n e f = grind (arith, nat_tests)

head_differs : (x : Rank) (n : ℕ) (xs : List Rank) (j : ℕ)
    → ((y : Rank) → In y xs → nat_eq x.seq y.seq ≡ false) → SeqAt n xs j → nat_eq x.seq n ≡ false
head_differs x n xs j f s = let r = seq_in n xs j s in other_head x.seq r.0.seq n r.2 (f r.0 r.1)

pub without-remove : (n : ℕ) (xs : List Rank) (j : ℕ) → Once xs → SeqAt n xs j
    → without n xs ≡ remove xs j
without-remove n [] j o s = elim s [ ]
without-remove n (x ∷ xs) zero o s = rw s (without-others n xs (others_from x n xs s o.0))
without-remove n (x ∷ xs) (suc j) o s =
    let other : nat_eq x.seq n ≡ false = head_differs x n xs j o.0 s in
    rw other (ap (λ zs. x ∷ zs) (without-remove n xs j o.1 s))

pub put_row-before_own : (r : Rank) (xs : List Rank) (i j : ℕ) → i ≤ j → IsPlace r xs i → Once xs
    → SeqAt r.seq xs j → put_row r xs ≡ insert (remove xs j) i r
put_row-before_own r [] i j l p o s = elim s [ ]
put_row-before_own r (x ∷ xs) zero j l p o s =
    let here : rank_lt x r ≡ false = p.back 0 x (omega arith) (omega arith) in
    rw here (ap (λ zs. r ∷ zs) (without-remove r.seq (x ∷ xs) j o s))
put_row-before_own r (x ∷ xs) (suc i) zero l p o s = absurd (omega arith)
put_row-before_own r (x ∷ xs) (suc i) (suc j) l p o s =
    let here : rank_lt x r ≡ true = p.front 0 x (omega arith) in
    let other : nat_eq x.seq r.seq ≡ false = head_differs x r.seq xs j o.0 s in
    rw (here, other) (ap (λ zs. x ∷ zs)
    (put_row-before_own r xs i j (omega arith) (tail_place r x xs i p) o.1 s))

ascending_at : (xs : List Rank) (i j : ℕ) (d : Rank) → Ascending xs → i < j → j < length xs
    → rank_lt (slice_index_or xs i d) (slice_index_or xs j d) ≡ true
ascending_at [] i j d up l h = absurd (omega arith)
ascending_at (x ∷ xs) zero zero d up l h = absurd (omega arith)
ascending_at (x ∷ xs) zero (suc j) d up l h =
    up.0 (slice_index_or xs j d) (index-in xs j d (omega arith))
ascending_at (x ∷ xs) (suc i) zero d up l h = absurd (omega arith)
ascending_at (x ∷ xs) (suc i) (suc j) d up l h =
    ascending_at xs i j d up.1 (omega arith) (omega arith)

index_same : (xs : List Rank) (k : ℕ) (d d' : Rank) → k < length xs
    → slice_index_or xs k d ≡ slice_index_or xs k d'
index_same [] k d d' h = absurd (omega arith)
index_same (x ∷ xs) zero d d' h = refl
index_same (x ∷ xs) (suc k) d d' h = index_same xs k d d' (omega arith)

-- the last of those before stands before, so all do
front_before : (r : Rank) (xs : List Rank) (at' : ℕ) → Ascending xs → at' ≤ length xs
    → ((d : Rank) → 0 < at' → rank_lt (slice_index_or xs (at' - 1) d) r ≡ true)
    → (k : ℕ) (d : Rank) → k < at' → rank_lt (slice_index_or xs k d) r ≡ true
front_before r xs zero up h last k d l = absurd (omega arith)
front_before r xs (suc i) up h last k d l = at_k (nat_eq k i) refl
  where
    number : nat_eq k i ≡ true → k ≡ i
    number e = same_number k i e

    less : nat_eq k i ≡ false → k < i
    less e = grind (arith, nat_tests)

    final : rank_lt (slice_index_or xs i d) r ≡ true
    final = let q : suc i - 1 ≡ i = omega arith in rw q at (last d (omega arith))

    at_k : (b : Bool) → nat_eq k i ≡ b → rank_lt (slice_index_or xs k d) r ≡ true
    at_k true e = rw (number e) final
    at_k false e = below_trans rank_lt ranks_ordered (slice_index_or xs k d)
        (slice_index_or xs i d) r (ascending_at xs k i d up (less e) (omega arith)) final

-- one more doesn't stand before
pub back_more : (r : Rank) (xs : List Rank) (at' : ℕ) → 0 < at'
    → ((d : Rank) → rank_lt (slice_index_or xs (at' - 1) d) r ≡ false)
    → ((k : ℕ) (d : Rank) → at' ≤ k → k < length xs → rank_lt (slice_index_or xs k d) r ≡ false)
    → (k : ℕ) (d : Rank) → at' - 1 ≤ k → k < length xs → rank_lt (slice_index_or xs k d) r ≡ false
back_more r xs at' some here more k d low high = at_k (nat_eq k (at' - 1)) refl
  where
    later : nat_eq k (at' - 1) ≡ false → at' ≤ k
    later e = grind (arith, nat_tests)

    at_k : (b : Bool) → nat_eq k (at' - 1) ≡ b → rank_lt (slice_index_or xs k d) r ≡ false
    at_k true e = rw (same_number k (at' - 1) e) (here d)
    at_k false e = more k d (later e) high

pub is_place : (r : Rank) (xs : List Rank) (at' : ℕ) → Ascending xs → at' ≤ length xs
    → ((d : Rank) → 0 < at' → rank_lt (slice_index_or xs (at' - 1) d) r ≡ true)
    → ((k : ℕ) (d : Rank) → at' ≤ k → k < length xs → rank_lt (slice_index_or xs k d) r ≡ false)
    → IsPlace r xs at'
is_place r xs at' up h last more = record { front = front_before r xs at' up h last; back = more }
