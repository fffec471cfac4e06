-- What is kept after a hit was put: the rows of hits, and the places of their documents.
use Rattle.std.proofs.Common.{◌≡◌, ◌≤◌, ◌<◌, ◌+◌, ℕ, zero, suc, Bool, true}
use Rattle.std.proofs.Common.{false, cond, nat_eq, List, [], ◌∷◌, length}
use Rattle.std.proofs.Common.{take, map, refl, sym, ap, ◌∙◌, subst, arith}
use Rattle.std.specs.Prelude.{insert, remove, Some, None}
use Rattle.std.specs.List.{position_from}
use Rattle.sg_base.specs.Ranking.{IsKept}
use Rattle.sg_base.specs.declared.rank.Rank.{Rank}
use Rattle.sg_base.specs.declared.hit.Hit.{Hit}
use Rattle.sg_base.proofs.RankingLemmas.{rank_lt, Once}
use Rattle.sg_base.specs.Rows.{put_row, ranked}
use Rattle.collector.specs.Hits.{row_of}
use Rattle.collector.specs.Places.{IsPlace, has_seq}
use Rattle.collector.specs.Tops.{PlainTop}
use Rattle.collector.proofs.ListLemmas.{map-insert, map-remove, map-take, map-length, take-whole}
use Rattle.collector.proofs.ListLemmas.{insert-length, pairs-take}
use Rattle.collector.proofs.KeptLemmas.{Others, put_row-take}
use Rattle.collector.proofs.RankingLemmas.{ascending-put_row, once-put_row, is_ranking-ranked}
use Rattle.collector.proofs.PlaceLemmas.{SeqAt, put_row-alone, put_row-behind_own}
use Rattle.collector.proofs.PlaceLemmas.{put_row-before_own}

remove-length : (xs : List Rank) (n j : ℕ) → SeqAt n xs j → length (remove xs j) + 1 ≡ length xs
remove-length [] n j s = elim s [ ]
remove-length (x ∷ xs) n zero s = omega arith
remove-length (x ∷ xs) n (suc j) s = let h = remove-length xs n j s in omega (arith, h)

found_at : (b : Bool) (key : Hit → List ℕ) (n i k : ℕ) (h : Hit) (hs : List Hit)
    → nat_eq h.seq n ≡ b → cond b (Some i) (position_from (has_seq n) (i + 1) hs) ≡ Some k
    → (position_from (has_seq n) (i + 1) hs ≡ Some k
    → (j : ℕ) × (k ≡ (i + 1) + j) × SeqAt n (map (row_of key) hs) j)
    → (j : ℕ) × (k ≡ i + j) × SeqAt n (map (row_of key) (h ∷ hs)) j
found_at true key n i k h hs is e more = let same : i ≡ k = cc in (0, omega (arith, same), is)
found_at false key n i k h hs is e more = let r = more e in let up : k ≡ (i + 1) + r.0 =
    r.1 in (suc r.0, omega (arith, up), r.2)

found : (key : Hit → List ℕ) (n i k : ℕ) (hs : List Hit) → position_from (has_seq n) i hs ≡ Some k
    → (j : ℕ) × (k ≡ i + j) × SeqAt n (map (row_of key) hs) j
found key n i k [] e = cc
found key n i k (h ∷ hs) e = found_at (nat_eq h.seq n) key n i k h hs refl e
    (found key n (i + 1) k hs)

pub seq_at : (key : Hit → List ℕ) (n k : ℕ) (hs : List Hit)
    → position_from (has_seq n) 0 hs ≡ Some k → SeqAt n (map (row_of key) hs) k
seq_at key n k hs e =
    let r = found key n 0 k hs e in
    let up : k ≡ 0 + r.0 = r.1 in
    let same : r.0 ≡ k = omega (arith, up) in
    subst (λ z. SeqAt n (map (row_of key) hs) z) same r.2

absent_at : (b : Bool) (key : Hit → List ℕ) (n i : ℕ) (h : Hit) (hs : List Hit) → nat_eq h.seq n ≡ b
    → cond b (Some i) (position_from (has_seq n) (i + 1) hs) ≡ None
    → (position_from (has_seq n) (i + 1) hs ≡ None → Others n (map (row_of key) hs))
    → Others n (map (row_of key) (h ∷ hs))
absent_at true key n i h hs is e more = cc
absent_at false key n i h hs is e more = (is, more e)

pub absent : (key : Hit → List ℕ) (n i : ℕ) (hs : List Hit) → position_from (has_seq n) i hs ≡ None
    → Others n (map (row_of key) hs)
absent key n i [] e = tt
absent key n i (h ∷ hs) e = absent_at (nat_eq h.seq n) key n i h hs refl e (absent key n (i + 1) hs)

pub rows-moved : (key : Hit → List ℕ) (hs new s t : List Hit) (h : Hit) (k at' own : ℕ) → s ≡ hs
    → t ≡ hs → length hs ≤ k → at' ≤ own → IsPlace (row_of key h) (map (row_of key) s) at'
    → position_from (has_seq h.seq) 0 t ≡ Some own → Once (map (row_of key) hs)
    → new ≡ insert (remove hs own) at' h
    → map (row_of key) new ≡ take k (put_row (row_of key h) (map (row_of key) hs))
rows-moved key hs new s t h k at' own e f few le p found once is =
    let rows : List Rank = map (row_of key) hs in
    let r : Rank = row_of key h in
    let seq : SeqAt h.seq rows own =
    seq_at key h.seq own hs (subst (λ z. position_from (has_seq h.seq) 0 z ≡ Some own) f found)
    in
    let place : IsPlace r rows at' = subst (λ z. IsPlace r (map (row_of key) z) at') e p in
    let put : put_row r rows ≡ insert (remove rows own) at' r =
    put_row-before_own r rows at' own le place once seq in
    let m : map (row_of key) (remove hs own) ≡ remove rows own = map-remove (row_of key) hs own in
    let l1 : length (remove rows own) + 1 ≡ length rows = remove-length rows h.seq own seq in
    let l2 = map-length (row_of key) (remove hs own) in
    let l3 : length (map (row_of key) (remove hs own)) ≡ length (remove rows own) = ap length m in
    let own_in : own < length rows = own_within rows h.seq own seq in
    let l4 = insert-length (remove rows own) at' r (omega (arith, l1, own_in, le)) in
    let l5 = map-length (row_of key) hs in
    ap (map (row_of key)) is
    ∙ map-insert (row_of key) (remove hs own) at' h (omega (arith, l1, l2, l3, own_in, le))
    ∙ ap (λ zs. insert zs at' r) m
    ∙ sym (take-whole k (insert (remove rows own) at' r) (omega (arith, l1, l4, l5, few)))
    ∙ ap (take k) (sym put)
  where
    own_within : (xs : List Rank) (n j : ℕ) → SeqAt n xs j → j < length xs
    own_within xs n j q = let l = remove-length xs n j q in within xs n j q
      where
        within : (ys : List Rank) (m i : ℕ) → SeqAt m ys i → i < length ys
        within [] m i q' = elim q' [ ]
        within (y ∷ ys) m zero q' = omega arith
        within (y ∷ ys) m (suc i) q' = let w = within ys m i q' in omega (arith, w)

pub rows-kept : (key : Hit → List ℕ) (hs s t : List Hit) (h : Hit) (k at' own : ℕ) → s ≡ hs → t ≡ hs
    → length hs ≤ k → own < at' → at' ≤ length s → IsPlace (row_of key h) (map (row_of key) s) at'
    → position_from (has_seq h.seq) 0 t ≡ Some own
    → map (row_of key) hs ≡ take k (put_row (row_of key h) (map (row_of key) hs))
rows-kept key hs s t h k at' own e f few le low p found =
    let rows : List Rank = map (row_of key) hs in
    let r : Rank = row_of key h in
    let seq : SeqAt h.seq rows own =
    seq_at key h.seq own hs (subst (λ z. position_from (has_seq h.seq) 0 z ≡ Some own) f found)
    in
    let place : IsPlace r rows at' = subst (λ z. IsPlace r (map (row_of key) z) at') e p in
    let l5 = map-length (row_of key) hs in
    let l6 : length s ≡ length hs = ap length e in
    sym (take-whole k rows (omega (arith, l5, few)))
    ∙ ap (take k) (sym (put_row-behind_own r rows at' own le (omega (arith, l5, l6, low)) place
    seq))

pub rows-inserted : (key : Hit → List ℕ) (hs new s t : List Hit) (h : Hit) (k at' : ℕ) → s ≡ hs
    → t ≡ hs → at' ≤ length s → IsPlace (row_of key h) (map (row_of key) s) at'
    → position_from (has_seq h.seq) 0 t ≡ None → new ≡ take k (insert hs at' h)
    → map (row_of key) new ≡ take k (put_row (row_of key h) (map (row_of key) hs))
rows-inserted key hs new s t h k at' e f low p none is =
    let rows : List Rank = map (row_of key) hs in
    let r : Rank = row_of key h in
    let others : Others h.seq rows =
    absent key h.seq 0 hs (subst (λ z. position_from (has_seq h.seq) 0 z ≡ None) f none) in
    let place : IsPlace r rows at' = subst (λ z. IsPlace r (map (row_of key) z) at') e p in
    let l5 = map-length (row_of key) hs in
    let l6 : length s ≡ length hs = ap length e in
    ap (map (row_of key)) is
    ∙ map-take (row_of key) k (insert hs at' h)
    ∙ ap (take k) (map-insert (row_of key) hs at' h (omega (arith, l6, low))
    ∙ sym (put_row-alone r rows at' (omega (arith, l5, l6, low)) place others))

pub kept-put : (k : ℕ) (r : Rank) (rows new : List Rank) → IsKept rows
    → new ≡ take k (put_row r rows) → IsKept new
kept-put k r rows new h e = subst IsKept (sym e) (record {
  ascending = pairs-take (λ a b. rank_lt a b ≡ true) k (put_row r rows)
      (ascending-put_row r rows h.ascending);
  once = pairs-take (λ a b. nat_eq a.seq b.seq ≡ false) k (put_row r rows)
      (once-put_row r rows h.once);
})

-- the new hits are the first k of the old ones and one more
abbrev pub KeepsFirst : (Hit → List ℕ) → PlainTop → Hit → List Hit → Type 0
KeepsFirst key top h new = map (row_of key) new
    ≡ take top.k (put_row (row_of key h) (map (row_of key) top.hits))

-- and so the first k of all rows that were put
pub first-put : (k : ℕ) (r : Rank) (old new all : List Rank) → new ≡ take k (put_row r old)
    → old ≡ take k (ranked all) → new ≡ take k (ranked (r ∷ all))
first-put k r old new all is first =
    is ∙ ap (λ rows. take k (put_row r rows)) first
    ∙ put_row-take k r (ranked all) (is_ranking-ranked all).once
