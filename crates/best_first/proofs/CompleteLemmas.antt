-- Where a search is complete, its rows are the first of all.
use Rattle.std.proofs.Common.{◌≡◌, ◌≤◌, ◌+◌, ℕ, zero, suc, Bool, true, false, cond, ◌⊎◌, inl, inr}
use Rattle.std.proofs.Common.{List, [], ◌∷◌, length, take, map, refl, sym, ap, ◌∙◌, subst, arith}
use Rattle.std.specs.List.{filter}
use Rattle.std.specs.Prelude.{Option, None}
use Rattle.sg_base.specs.Cuts.{Mark, row_mark, PlainCut, cut_mark, precedes}
use Rattle.sg_base.specs.Lists.{In}
use Rattle.sg_base.specs.Rows.{ranked}
use Rattle.sg_base.specs.declared.rank.Rank.{Rank}
use Rattle.sg_base.proofs.MarkLemmas.{mark_lt, marks_ordered, precedes-down}
use Rattle.sg_base.proofs.Orders.{at_most_trans, below_at_most, at_most_below}
use Rattle.sg_base.proofs.RankingLemmas.{rank_lt, ranks_ordered}
use Rattle.path_desk.specs.Entries.{Queued, mark_of}
use Rattle.collector.proofs.RankingLemmas.{ranked-same}
use Rattle.best_first.specs.Listings.{IsListing, mark_of_match}
use Rattle.best_first.specs.Lists.{passing, Beside}
use Rattle.best_first.specs.Matches.{Match, covers, Best, Ends, ranks_of}
use Rattle.best_first.specs.Progress.{Taken, Progress}
use Rattle.best_first.proofs.MarkLemmas.{rank_lt-mark, mark-under}
use Rattle.best_first.proofs.RowLemmas.{first-late, ranked-within, preceding-more}

some_at : {X : Type 0} (p : X → Bool) (b : Bool) (x : X) (xs : List X) → p x ≡ b
    → 1 ≤ cond b 1 0 + passing p xs
    → (1 ≤ passing p xs → (y : X) × In y xs × (p y ≡ true)) → (y : X) × In y (x ∷ xs) × (p y ≡ true)
some_at p true x xs e h more = (x, inl refl, e)
some_at p false x xs e h more = let r = more (omega (arith, h)) in (r.0, inr r.1, r.2)

pub passing-some : {X : Type 0} (p : X → Bool) (xs : List X) → 1 ≤ passing p xs
    → (y : X) × In y xs × (p y ≡ true)
passing-some p [] h = absurd (omega arith)
passing-some p (x ∷ xs) h = some_at p (p x) x xs refl h (passing-some p xs)

pub beside-find : {X Y : Type 0} (R : X → Y → Type 0) (x : X) (xs : List X) (ys : List Y)
    → Beside R xs ys → In x xs → (y : Y) × In y ys × R x y
beside-find R x [] ys h i = elim i [ ]
beside-find R x (z ∷ xs) [] h i = elim h [ ]
beside-find {X} {Y} R x (z ∷ xs) (y ∷ ys) h (inl i) = (y, inl refl, subst (λ w. R w y) (sym i) h.0)
beside-find R x (z ∷ xs) (y ∷ ys) h (inr i) =
    let r = beside-find R x xs ys h.1 i in
    (r.0, inr r.1, r.2)

pub beside-back : {X Y : Type 0} (R : X → Y → Type 0) (y : Y) (xs : List X) (ys : List Y)
    → Beside R xs ys → In y ys → (x : X) × In x xs × R x y
beside-back R y xs [] h i = elim i [ ]
beside-back R y [] (z ∷ ys) h i = elim h [ ]
beside-back {X} {Y} R y (x ∷ xs) (z ∷ ys) h (inl i) = (x, inl refl, subst (λ w. R x w) (sym i) h.0)
beside-back R y (x ∷ xs) (z ∷ ys) h (inr i) =
    let r = beside-back R y xs ys h.1 i in
    (r.0, inr r.1, r.2)

-- ranks of live ones

in_ranks_at : (b : Bool) (r : Rank) (m : Match) (ms : List Match) → m.live ≡ b
    → (In r (ranks_of ms) → (n : Match) × In n ms × (n.live ≡ true) × (r ≡ n.rank))
    → In r (map (λ n. n.rank) (cond b (m ∷ filter (λ n. n.live) ms) (filter (λ n. n.live) ms)))
    → (n : Match) × In n (m ∷ ms) × (n.live ≡ true) × (r ≡ n.rank)
in_ranks_at true r m ms e more (inl h) = (m, inl refl, e, h)
in_ranks_at true r m ms e more (inr h) = let k = more h in (k.0, inr k.1, k.2, k.3)
in_ranks_at false r m ms e more h = let k = more h in (k.0, inr k.1, k.2, k.3)

pub in-ranks_of : (r : Rank) (ms : List Match) → In r (ranks_of ms)
    → (n : Match) × In n ms × (n.live ≡ true) × (r ≡ n.rank)
in-ranks_of r [] h = elim h [ ]
in-ranks_of r (m ∷ ms) h = in_ranks_at m.live r m ms refl (in-ranks_of r ms) h

ranks_in_at : (b : Bool) (n m : Match) (ms : List Match) → m.live ≡ b → n.live ≡ true
    → (In n ms → In n.rank (ranks_of ms)) → (n ≡ m) ⊎ In n ms
    → In n.rank (map (λ o. o.rank) (cond b (m ∷ filter (λ o. o.live) ms) (filter (λ o. o.live) ms)))
ranks_in_at true n m ms e l more (inl h) = inl (ap (λ o. o.rank) h)
ranks_in_at true n m ms e l more (inr h) = inr (more h)
ranks_in_at false n m ms e l more (inl h) =
    let no : true ≡ false = sym l ∙ ap (λ o. o.live) h ∙ e in
    cc
ranks_in_at false n m ms e l more (inr h) = more h

pub ranks_of-in : (n : Match) (ms : List Match) → n.live ≡ true → In n ms → In n.rank (ranks_of ms)
ranks_of-in n [] l h = elim h [ ]
ranks_of-in n (m ∷ ms) l h = ranks_in_at m.live n m ms refl l (ranks_of-in n ms l) h

-- at the end of a step, when nothing is followed

module _ (all : List Match) (P : Queued → Type 0) (reached : List Match) (room starts : ℕ)
    (waiting : List Queued) (count : ℕ) (first : Option Queued)
    (s : Progress all P reached room [] waiting count first None) (l : IsListing all starts) where
  abbrev pub OverLeft : Match → Type 0
  OverLeft m = (e : Queued) × (In e waiting ⊎ In e s.dropped) × (covers m e ≡ true)

  reached_match : (m : Match) → In m all → 1 ≤ passing (λ t. covers m t.now) s.taken → In m reached
  reached_match m i h =
      let t = passing-some (λ (u : Taken). covers m u.now) s.taken h in
      let e = beside-find (λ (u : Taken) n. Ends all u.now n) t.0 s.taken reached s.ended t.1 in
      let same : m ≡ e.0 = e.2.alone m i t.2 in
      subst (λ z. In z reached) (sym same) e.1

  waiting_match : (m : Match) → 1 ≤ passing (covers m) waiting → OverLeft m
  waiting_match m h = let e = passing-some (covers m) waiting h in (e.0, inl e.1, e.2)

  dropped_match : (m : Match) → 1 ≤ passing (covers m) s.dropped → OverLeft m
  dropped_match m h = let e = passing-some (covers m) s.dropped h in (e.0, inr e.1, e.2)

  split_at : (m : Match) → In m all → (a b : ℕ) → passing (λ t. covers m t.now) s.taken ≡ a
      → passing (covers m) waiting ≡ b → In m reached ⊎ OverLeft m
  split_at m i (suc a) b p q = inl (reached_match m i (omega (arith, p)))
  split_at m i zero (suc b) p q = inr (waiting_match m (omega (arith, q)))
  split_at m i zero zero p q = inr (dropped_match m (let h = s.cover m i in omega (arith, h, p, q)))

  -- a matching path is reached, or an entry that is left lies over it
  pub reached_or_left : (m : Match) → In m all → In m reached ⊎ OverLeft m
  reached_or_left m i = split_at m i (passing (λ t. covers m t.now) s.taken)
      (passing (covers m) waiting) refl refl

  pub reached_in_all : (m : Match) → In m reached → In m all
  reached_in_all m i = (beside-back (λ (u : Taken) n. Ends all u.now n) m s.taken reached s.ended
      i).2.of

  reached_ranks : (r : Rank) → In r (ranks_of reached) → In r (ranks_of all)
  reached_ranks r i =
      let n = in-ranks_of r reached i in
      subst (λ z. In z (ranks_of all)) (sym n.3) (ranks_of-in n.0 all n.2 (reached_in_all n.0 n.1))

  -- a row of all is a reached one, or lies under an entry that is left
  each_row : (r : Rank) → In r (ranks_of all)
      → In r (ranks_of reached) ⊎ ((m : Match) × In m all × OverLeft m × (r ≡ m.rank))
  each_row r i =
      let n = in-ranks_of r all i in
      elim (reached_or_left n.0 n.1) as
      (λ _. In r (ranks_of reached) ⊎ ((m : Match) × In m all × OverLeft m × (r ≡ m.rank))) [
        | inl k ↦ inl (subst (λ z. In z (ranks_of reached)) (sym n.3)
            (ranks_of-in n.0 reached n.2 k))
        | inr k ↦ inr (n.0, n.1, k, n.3)
      ]

  -- k rows are kept, and each stands before what lies under the entries that are left
  pub complete-late : (k : ℕ) → k ≤ length (ranked (ranks_of reached))
      → ((m : Match) → In m all → OverLeft m → (x : Rank)
      → In x (take k (ranked (ranks_of reached))) → rank_lt x m.rank ≡ true)
      → take k (ranked (ranks_of reached)) ≡ take k (ranked (ranks_of all))
  complete-late k h late =
      sym (ap (take k) (sym (ranked-within (ranks_of all) (ranks_of reached) reached_ranks))
      ∙ first-late k (ranks_of reached) (ranks_of all) h
      (λ u i. elim (each_row u i) as
      (λ _. In u (ranks_of reached) ⊎ ((x : Rank)
      → In x (take k (ranked (ranks_of reached))) → rank_lt x u ≡ true)) [
        | inl j ↦ inl j
        | inr j ↦ inr (λ x y. subst (λ z. rank_lt x z ≡ true) (sym j.3) (late j.0 j.1 j.2 x y))
      ]))

  -- nothing is queued and nothing was dropped
  pub complete-empty : (k : ℕ) → ((e : Queued) → In e waiting ⊎ In e s.dropped → ⊥)
      → take k (ranked (ranks_of reached)) ≡ take k (ranked (ranks_of all))
  complete-empty k none =
      ap (take k) (sym (preceding_all))
    where
      preceding_all : ranked (ranks_of all) ≡ ranked (ranks_of reached)
      preceding_all =
          ranked-same (ranks_of all) (ranks_of reached)
          (λ r i. elim (each_row r i) as (λ _. In r (ranks_of reached))
          [ inl j ↦ j | inr j ↦ absurd (none j.2.0 j.2.1) ])
          reached_ranks

  -- the first queued and the first dropped one stand before all that is left
  abbrev pub IsSettled : Mark → Type 0
  IsSettled m = ((e : Queued) → In e waiting ⊎ In e s.dropped → mark_lt m (mark_of e) ≡ true)

  -- the last of k rows stands before what is left: so does each
  pub complete-settled : (k : ℕ) (w : Rank) → k ≤ length (ranked (ranks_of reached))
      → IsSettled (row_mark w)
      → ((x : Rank) → In x (take k (ranked (ranks_of reached))) → rank_lt w x ≡ false)
      → take k (ranked (ranks_of reached)) ≡ take k (ranked (ranks_of all))
  complete-settled k w h settled last =
      complete-late k h (λ m i over x j.
      let best : Best all over.0 = (s.left_sound over.0 (inr over.1)).0 in
      let below : mark_lt (row_mark w) (mark_of_match m) ≡ true =
      below_at_most mark_lt marks_ordered (row_mark w) (mark_of over.0) (mark_of_match m)
      (settled over.0 over.1) (mark-under all starts l m over.0 i best over.2) in
      let first_before : rank_lt w m.rank ≡ true = rank_lt-mark w m.rank below in
      at_most_below rank_lt ranks_ordered x w m.rank (last x j) first_before)

  -- the rows that precede the first of what is left are those of the reached
  pub preceding-reached : (cut : PlainCut)
      → ((e : Queued) → In e waiting ⊎ In e s.dropped → mark_lt (mark_of e) (cut_mark cut) ≡ false)
      → filter (precedes cut) (ranked (ranks_of reached))
      ≡ filter (precedes cut) (ranked (ranks_of all))
  preceding-reached cut least =
      sym (ap (filter (precedes cut))
      (sym (ranked-within (ranks_of all) (ranks_of reached) reached_ranks))
      ∙ preceding-more (precedes cut) (precedes-down cut) (ranks_of reached) (ranks_of all)
      (λ u i. elim (each_row u i) as (λ _. In u (ranks_of reached) ⊎ (precedes cut u ≡ false)) [
        | inl j ↦ inl j
        | inr j ↦
            let best : Best all j.2.0 = (s.left_sound j.2.0 (inr j.2.1)).0 in
            let after : mark_lt (mark_of_match j.0) (cut_mark cut) ≡ false =
            at_most_trans mark_lt marks_ordered (cut_mark cut) (mark_of j.2.0) (mark_of_match j.0)
            (least j.2.0 j.2.1) (mark-under all starts l j.0 j.2.0 j.1 best j.2.2) in
            inr (subst (λ z. precedes cut z ≡ false) (sym j.3) after)
      ]))
