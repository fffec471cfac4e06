-- A search is done before its queue is empty: its rows are the first of all.
use Rattle.std.proofs.Common.{◌≡◌, ◌≤◌, ◌<◌, ◌-◌, ◌⊎◌, inl, inr, ℕ, zero, suc, Bool, true, false}
use Rattle.std.proofs.Common.{cond, List, [], ◌∷◌, length, take, refl, sym, ap, ◌∙◌, subst, arith}
use Rattle.std.specs.Cmp.Lexicographic.{slice_cmp}
use Rattle.std.specs.Ordering.{is_lt, nat_cmp, ordering_then}
use Rattle.std.specs.Prelude.{Option, Some, None, slice_get, slice_index_or, nat_lt}
use Rattle.std.specs.declared.cmp.Ordering.{Ordering}
use Rattle.std.specs.declared.cmp.Ordering.TheVariants.{Less, Equal, Greater}
use Rattle.std.proofs.lemmas.Bool.{false_from_ne_true, and_parts, ltb-true, ltb-false}
use Rattle.std.proofs.lemmas.List.{length-take-le, append-nil}
use Rattle.sg_base.specs.Cuts.{Mark, mark_cmp, row_mark}
use Rattle.sg_base.specs.Lists.{In, Pairs}
use Rattle.sg_base.specs.Rows.{ranked}
use Rattle.sg_base.specs.declared.rank.Rank.{Rank}
use Rattle.sg_base.proofs.MarkLemmas.{mark_lt, marks_ordered}
use Rattle.sg_base.proofs.Orders.{at_most_itself, weaken, below_at_most}
use Rattle.sg_base.proofs.RankingLemmas.{rank_lt, ranks_ordered, Ascending}
use Rattle.path_desk.specs.Desks.{PlainDesk, is_settled, is_before, taken_room}
use Rattle.path_desk.specs.Entries.{Queued, queued, mark_of, rest_part}
use Rattle.path_desk.proofs.OrderLemmas.{entry_lt}
use Rattle.collector.proofs.ListLemmas.{in-take, pairs-take}
use Rattle.collector.proofs.RankingLemmas.{is_ranking-ranked}
use Rattle.best_first.specs.Ends.{last_row, is_done}
use Rattle.best_first.specs.Listings.{IsListing}
use Rattle.best_first.specs.Matches.{Match, covers, Best, Ends, ranks_of}
use Rattle.best_first.specs.Progress.{Taken, IsFirst, Left, Progress}
use Rattle.best_first.specs.Segments.{Between}
use Rattle.best_first.proofs.CompleteLemmas.{complete-late, complete-settled, in-ranks_of}
use Rattle.best_first.proofs.CompleteLemmas.{beside-back}
use Rattle.best_first.proofs.CoverLemmas.{covers-start, covers-bytes, not_begun}
use Rattle.best_first.proofs.EntryLemmas.{mark_of-below, stays_before, within_start, begun_rest}
use Rattle.best_first.proofs.ListLemmas.{passing-in}
use Rattle.best_first.proofs.SearchLemmas.{index-in}

-- what holds of the desk between two paths
pub between-progress : (all : List Match) (P : Queued → Type 0) (reached : List Match) (k : ℕ)
    (d : PlainDesk) (rows : List Rank) → Between all P reached k d rows
    → Progress all P reached d.room [] d.waiting d.reached d.dropped None
between-progress all P reached k d rows b =
    subst (λ o. Progress all P reached d.room [] d.waiting (taken_room d.reached o) d.dropped None)
    b.idle b.searching.progress

last_at : (x e d : Rank) (xs : List Rank) → Ascending (x ∷ xs) → In e (x ∷ xs)
    → rank_lt (slice_index_or (x ∷ xs) (length xs) d) e ≡ false
last_at x e d [] up (inl i) = subst (λ z. rank_lt x z ≡ false) (sym i)
    (at_most_itself rank_lt ranks_ordered x)
last_at x e d [] up (inr i) = elim i [ ]
last_at x e d (y ∷ ys) up (inl i) =
    subst (λ z. rank_lt (slice_index_or (y ∷ ys) (length ys) d) z ≡ false) (sym i)
    (weaken rank_lt ranks_ordered x (slice_index_or (y ∷ ys) (length ys) d)
    (up.0 (slice_index_or (y ∷ ys) (length ys) d)
    (index-in (y ∷ ys) d (length ys) (omega arith))))
last_at x e d (y ∷ ys) up (inr i) = last_at y e d ys up.1 i

-- none is after the last
last-greatest : (rows : List Rank) (n : ℕ) (e d : Rank) → Ascending rows → length rows ≡ n
    → In e rows → rank_lt (slice_index_or rows (n - 1) d) e ≡ false
last-greatest [] n e d up l i = elim i [ ]
last-greatest (x ∷ xs) n e d up l i =
    let m : n - 1 ≡ length xs = omega (arith, l) in
    subst (λ k. rank_lt (slice_index_or (x ∷ xs) k d) e ≡ false) (sym m) (last_at x e d xs up i)

front_lt : (o t r : Ordering) → is_lt o ≡ true → is_lt (ordering_then (ordering_then o t) r) ≡ true
front_lt Less t r h = refl
front_lt Equal t r h = cc
front_lt Greater t r h = cc

-- an entry that isn't after another has no later mark
pub mark_at_most : (x y : Queued) → entry_lt x y ≡ false → mark_lt (mark_of x) (mark_of y) ≡ false
mark_at_most x y h =
    false_from_ne_true (mark_lt (mark_of x) (mark_of y)) (λ e.
    let up = front_lt (mark_cmp (mark_of x) (mark_of y)) (nat_cmp x.entry.start y.entry.start)
    (slice_cmp nat_cmp (rest_part x.bytes) (rest_part y.bytes)) e in
    let never : true ≡ false = sym up ∙ h in cc)

row_in_at : (k : ℕ) (b : Bool) (rows : List Rank) (r : Rank) → nat_lt (length rows) k ≡ b
    → cond b None (slice_get rows (k - 1)) ≡ Some r
    → (k ≤ length rows) × (slice_get rows (k - 1) ≡ Some r)
row_in_at k true rows r is e = cc
row_in_at k false rows r is e = (ltb-false (length rows) k is, e)

pub last_row-some : (k : ℕ) (rows : List Rank) (r : Rank) → last_row k rows ≡ Some r
    → (k ≤ length rows) × (slice_get rows (k - 1) ≡ Some r)
last_row-some k rows r e = row_in_at k (nat_lt (length rows) k) rows r refl e

get_none : (n : ℕ) (xs : List Rank) → slice_get xs n ≡ None → length xs ≤ n
get_none n [] e = omega arith
get_none zero (x ∷ xs) e = cc
get_none (suc n) (x ∷ xs) e = let r = get_none n xs e in omega (arith, r)

none_at : (k : ℕ) (rows : List Rank) (c : Bool) → nat_lt (length rows) k ≡ c
    → cond c None (slice_get rows (k - 1)) ≡ None → 1 ≤ k → length rows < k
none_at k rows true is e some = ltb-true (length rows) k is
none_at k rows false is e some = let r = get_none (k - 1) rows e in omega (arith, r, some)

pub last_row-none : (k : ℕ) (rows : List Rank) → last_row k rows ≡ None → 1 ≤ k
    → length rows < k
last_row-none k rows e some = none_at k rows (nat_lt (length rows) k) refl e some

get_index : (rows : List Rank) (n : ℕ) (r d : Rank) → slice_get rows n ≡ Some r
    → r ≡ slice_index_or rows n d
get_index [] n r d e = cc
get_index (x ∷ xs) zero r d e = let t : Some r ≡ Some x = sym e in (let q : r ≡ x = cc in q)
get_index (x ∷ xs) (suc n) r d e = get_index xs n r d e

pub taken_length : {X : Type 0} (k : ℕ) (xs : List X) → k ≤ length (take k xs) → k ≤ length xs
taken_length zero xs h = omega arith
taken_length (suc k) [] h = absurd (omega arith)
taken_length (suc k) (x ∷ xs) h = let r = taken_length k xs (omega arith) in omega (arith, r)

module _ (all : List Match) (P : Queued → Type 0) (reached : List Match) (starts k : ℕ)
    (d : PlainDesk) (rows : List Rank)
    (b : Between all P reached k d rows) (l : IsListing all starts) where
  abbrev pub s : Progress all P reached d.room [] d.waiting d.reached d.dropped None
  s = between-progress all P reached k d rows b

  ascending : Ascending (take k (ranked (ranks_of reached)))
  ascending = pairs-take (λ x y. rank_lt x y ≡ true) k (ranked (ranks_of reached))
      (is_ranking-ranked (ranks_of reached)).ascending

  -- the last of k rows is the greatest
  last_is : (w : Rank) → last_row k rows ≡ Some w
      → (k ≤ length (ranked (ranks_of reached)))
      × ((x : Rank) → In x (take k (ranked (ranks_of reached))) → rank_lt w x ≡ false)
  last_is w e =
      let h = last_row-some k rows w e in
      let n : length rows ≡ length (take k (ranked (ranks_of reached))) = ap length b.kept in
      let low = h.0 in
      let long : k ≤ length (ranked (ranks_of reached)) =
      taken_length k (ranked (ranks_of reached)) (omega (arith, n, low)) in
      let at_last : slice_get (take k (ranked (ranks_of reached))) (k - 1) ≡ Some w =
      subst (λ zs. slice_get zs (k - 1) ≡ Some w) b.kept h.1 in (
        long,
        λ x i. subst (λ z. rank_lt z x ≡ false)
            (sym (get_index (take k (ranked (ranks_of reached))) (k - 1) w w at_last))
            (last-greatest (take k (ranked (ranks_of reached))) k x w ascending
            (length-take-le k (ranked (ranks_of reached)) long) i),
      )

  -- settled

  settled_queue : (m : Mark) (ws : List Queued) → Pairs (λ a c. entry_lt a c ≡ true) ws
      → is_before m (slice_get ws 0) ≡ true → (e : Queued) → In e ws → mark_lt m (mark_of e) ≡ true
  settled_queue m [] up h e i = elim i [ ]
  settled_queue m (q ∷ qs) up h e (inl i) = subst (λ z. mark_lt m (mark_of z) ≡ true) (sym i) h
  settled_queue m (q ∷ qs) up h e (inr i) =
      below_at_most mark_lt marks_ordered m (mark_of q) (mark_of e) h (mark_of-below q e (up.0 e i))

  settled_dropped : (m : Mark) (o : Option Queued) (ds : List Queued) → IsFirst ds o
      → is_before m o ≡ true → (e : Queued) → In e ds → mark_lt m (mark_of e) ≡ true
  settled_dropped m None ds f h e i = absurd (subst (λ z. In e z) f i)
  settled_dropped m (Some q) ds f h e i =
      below_at_most mark_lt marks_ordered m (mark_of q) (mark_of e) h (mark_at_most e q (f.1 e i))

  all_settled : (m : Mark) → is_settled d m ≡ true → (e : Queued) → In e d.waiting ⊎ In e s.dropped
      → mark_lt m (mark_of e) ≡ true
  all_settled m h e (inl i) = settled_queue m d.waiting s.rising
      (and_parts (is_before m (slice_get d.waiting 0)) (is_before m d.dropped) h).0 e i
  all_settled m h e (inr i) = settled_dropped m d.dropped s.dropped s.is_first
      (and_parts (is_before m (slice_get d.waiting 0)) (is_before m d.dropped) h).1 e i

  pub done-settled : (w : Rank) → last_row k rows ≡ Some w → is_settled d (row_mark w) ≡ true
      → rows ≡ take k (ranked (ranks_of all))
  done-settled w e h =
      b.kept ∙ complete-settled all P reached d.room starts d.waiting d.reached d.dropped s l k w
      (last_is w e).0 (all_settled (row_mark w) h) (last_is w e).1

  -- one start

  zero_below : (n : ℕ) → n < starts → starts ≤ 1 → n ≡ 0
  zero_below n h o = omega arith

  abbrev under : Queued → Match → Queued
  under e m = queued (record {
    score = m.rank.score;
    start = e.entry.start;
    boost =
        e.entry.boost;
    node = e.entry.node;
    cost = e.entry.cost;
    ordinal = e.entry.ordinal;
  })
      m.bytes

  taken_apart : (t : Taken) (e : Queued) → In t s.taken → In e d.waiting ⊎ In e s.dropped
      → (m : Match) → In m all → covers m t.now ≡ true → covers m e ≡ true → ⊥
  taken_apart t e i (inl j) m o p q =
      let one = s.cover m o in
      let x = passing-in (λ (u : Taken). covers m u.now) t s.taken i p in
      let y = passing-in (covers m) e d.waiting j q in
      omega (arith, one, x, y)
  taken_apart t e i (inr j) m o p q =
      let one = s.cover m o in
      let x = passing-in (λ (u : Taken). covers m u.now) t s.taken i p in
      let y = passing-in (covers m) e s.dropped j q in
      omega (arith, one, x, y)

  left_of : (e : Queued) → In e d.waiting ⊎ In e s.dropped → Left [] d.waiting s.dropped e
  left_of e h = inr h

  -- what is reached stands before what lies under the entries of its start that are left
  pub reached-before : starts ≤ 1 → (n m : Match) → In n reached → In m all → (e : Queued)
      → In e d.waiting ⊎ In e s.dropped → covers m e ≡ true
      → is_lt (ordering_then (nat_cmp m.rank.score n.rank.score)
      (slice_cmp nat_cmp n.bytes m.bytes)) ≡ true
  reached-before one n m i j e left c =
      let r = beside-back (λ (u : Taken) z. Ends all u.now z) n s.taken reached s.ended i in
      let t = r.0 in
      let ends : Ends all t.now n = r.2 in
      let best_t : Best all t.now = (s.taken_sound t r.1).0 in
      let best_e : Best all e = (s.left_sound e (left_of e left)).0 in
      let st : t.now.entry.start ≡ 0 =
      covers-start n t.now ends.over ∙ zero_below n.start (l.within n ends.of) one in
      let se : e.entry.start ≡ 0 = covers-start m e c ∙ zero_below m.start (l.within m j) one in
      let same : t.now.entry.start ≡ e.entry.start = st ∙ sym se in
      let before : entry_lt t.now e ≡ true = s.start_left t e r.1 (left_of e left) same in
      let w = best_t.met in
      let is_n : w.0 ≡ n = ends.alone w.0 w.1 w.2 in
      let score : n.rank.score ≡ t.now.entry.score = ap (λ z. z.rank.score) (sym is_n) ∙ w.3 in
      let u = begun_rest e.bytes m.bytes (covers-bytes m e c) in
      let h = stays_before t.now e t.now (under e m) [] u.0 same refl refl
      (sym (append-nil t.now.bytes)) u.1 refl (best_e.bound m j c)
      (not_begun all t.now e best_e (taken_apart t e r.1 left) same) before in
      let h' = sym (ap is_lt (within_start t.now (under e m) same)) ∙ h in
      subst (λ z. is_lt (ordering_then (nat_cmp m.rank.score z) (slice_cmp nat_cmp n.bytes m.bytes))
      ≡ true) (sym score)
      (subst (λ z. is_lt (ordering_then (nat_cmp m.rank.score t.now.entry.score)
      (slice_cmp nat_cmp z m.bytes)) ≡ true) ends.bytes h')

  pub done-one_start : starts ≤ 1 → (w : Rank) → last_row k rows ≡ Some w
      → rows ≡ take k (ranked (ranks_of all))
  done-one_start one w e =
      b.kept ∙ complete-late all P reached d.room starts d.waiting d.reached d.dropped s l k
      (last_is w e).0
      (λ m i over x j.
      let y = in-ranks_of x reached ((is_ranking-ranked (ranks_of reached)).from x
      (in-take x k (ranked (ranks_of reached)) j)) in
      let z = beside-back (λ (u : Taken) v. Ends all u.now v) y.0 s.taken reached s.ended y.1 in
      let sm : y.0.start ≡ m.start =
      zero_below y.0.start (l.within y.0 z.2.of) one
      ∙ sym (zero_below m.start (l.within m i) one) in
      subst (λ q. rank_lt q m.rank ≡ true) (sym y.3)
      (l.ordered y.0 m z.2.of i sm (reached-before one y.0 m y.1 i over.0 over.1 over.2)))

done_at : (all : List Match) (P : Queued → Type 0) (reached : List Match) (starts k : ℕ)
    (d : PlainDesk) (rows : List Rank) (b : Between all P reached k d rows)
    (l : IsListing all starts) (one : Bool) (o : Option Rank)
    → last_row k rows ≡ o → (one ≡ true → starts ≤ 1) → is_done one d o ≡ true
    → rows ≡ take k (ranked (ranks_of all))
done_at all P reached starts k d rows b l one None e f h = cc
done_at all P reached starts k d rows b l true (Some w) e f h =
    done-one_start all P reached starts k d rows b l (f refl) w e
done_at all P reached starts k d rows b l false (Some w) e f h =
    done-settled all P reached starts k d rows b l w e h

pub done : (all : List Match) (P : Queued → Type 0) (reached : List Match) (starts k : ℕ)
    (d : PlainDesk) (rows : List Rank) → Between all P reached k d rows → IsListing all starts
    → (one : Bool)
    → (one ≡ true → starts ≤ 1) → is_done one d (last_row k rows) ≡ true
    → rows ≡ take k (ranked (ranks_of all))
done all P reached starts k d rows b l one f h =
    done_at all P reached starts k d rows b l one (last_row k rows) refl f h
