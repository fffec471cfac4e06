-- With one start and an empty queue: where something was dropped, the next path after the room is
-- needed, and the truncation point is at it.
use Rattle.std.proofs.Common.{◌≡◌, ◌≤◌, ◌<◌, ◌+◌, ◌⊎◌, inl, inr, ℕ, zero, suc, Bool, true, false}
use Rattle.std.proofs.Common.{cond, List, [], ◌∷◌, ◌++◌, length, take, drop, refl, sym, ap, ◌∙◌}
use Rattle.std.proofs.Common.{subst, arith}
use Rattle.std.specs.Cmp.Lexicographic.{slice_cmp}
use Rattle.std.specs.Ordering.{is_lt, nat_cmp, ordering_then}
use Rattle.std.specs.Prelude.{Some, None}
use Rattle.std.specs.declared.cmp.Ordering.{Ordering}
use Rattle.std.specs.declared.cmp.Ordering.TheVariants.{Less, Equal, Greater}
use Rattle.std.proofs.lemmas.Bool.Decides.{nat_tests}
use Rattle.std.proofs.lemmas.List.{take-append-drop}
use Rattle.sg_base.specs.ByteStrings.{begins}
use Rattle.sg_base.specs.Lists.{In}
use Rattle.sg_base.specs.Rows.{ranked}
use Rattle.sg_base.specs.declared.rank.Rank.{Rank}
use Rattle.sg_base.proofs.Orders.{not_both, at_most_itself}
use Rattle.path_desk.specs.Desks.{PlainDesk, cut_at}
use Rattle.path_desk.specs.Entries.{Queued, queued, key_part, rest_part}
use Rattle.path_desk.proofs.OrderLemmas.{entry_lt, entries_ordered}
use Rattle.collector.proofs.RankingLemmas.{ranked-same}
use Rattle.best_first.specs.Exact.{IsInOrder, IsShort, IsExact}
use Rattle.best_first.specs.Listings.{IsListing}
use Rattle.best_first.specs.Lists.{passing}
use Rattle.best_first.specs.Matches.{Match, covers, Best, Ends, ranks_of}
use Rattle.best_first.specs.Progress.{Taken, IsFirst, Progress}
use Rattle.best_first.specs.Segments.{Between}
use Rattle.best_first.proofs.CompleteLemmas.{reached_or_left, beside-back, in-ranks_of, ranks_of-in}
use Rattle.best_first.proofs.CoverLemmas.{covers-start, covers-bytes, not_begun}
use Rattle.best_first.proofs.DoneLemmas.{between-progress}
use Rattle.best_first.proofs.EntryLemmas.{stays_before, within_start, begun_rest, begins-key_part}
use Rattle.best_first.proofs.EntryLemmas.{tied_entries}
use Rattle.best_first.proofs.ListLemmas.{passing-in}
use Rattle.best_first.proofs.OrderLemmas.{zero_start, reached_is, beside-length}
use Rattle.best_first.proofs.PrefixLemmas.{match_lt, Rising, never_before_itself, never_both}
use Rattle.best_first.proofs.PrefixLemmas.{in-drop_or_take, in_drop, take_before_drop, rising_drop}

-- two members that differ are counted twice
two_at : (b : Bool) (p : Queued → Bool) (x y z : Queued) (zs : List Queued) → p z ≡ b → (x ≡ y → ⊥)
    → p x ≡ true → p y ≡ true → (x ≡ z) ⊎ In x zs → (y ≡ z) ⊎ In y zs
    → (In x zs → In y zs → 2 ≤ passing p zs) → (In x zs → 1 ≤ passing p zs)
    → (In y zs → 1 ≤ passing p zs) → 2 ≤ cond b 1 0 + passing p zs
two_at true p x y z zs is d px py (inl i) (inl j) more fx fy = absurd (d (i ∙ sym j))
two_at true p x y z zs is d px py (inl i) (inr j) more fx fy = let h = fy j in omega (arith, h)
two_at true p x y z zs is d px py (inr i) (inl j) more fx fy = let h = fx i in omega (arith, h)
two_at true p x y z zs is d px py (inr i) (inr j) more fx fy = let h = more i j in omega (arith, h)
two_at false p x y z zs is d px py (inl i) j more fx fy =
    let never : true ≡ false = sym px ∙ ap p i ∙ is in
    cc
two_at false p x y z zs is d px py (inr i) (inl j) more fx fy =
    let never : true ≡ false = sym py ∙ ap p j ∙ is in
    cc
two_at false p x y z zs is d px py (inr i) (inr j) more fx fy = let h = more i j in omega (arith, h)

passing-two : (p : Queued → Bool) (x y : Queued) (zs : List Queued) → (x ≡ y → ⊥) → p x ≡ true
    → p y ≡ true → In x zs → In y zs → 2 ≤ passing p zs
passing-two p x y [] d px py i j = elim i [ ]
passing-two p x y (z ∷ zs) d px py i j =
    two_at (p z) p x y z zs refl d px py i j (passing-two p x y zs d px py)
    (λ h. passing-in p x zs h px) (λ h. passing-in p y zs h py)

score_le : (o k : Ordering) (a b : ℕ) → nat_cmp b a ≡ o → is_lt (ordering_then o k) ≡ true → b ≤ a
score_le Less k a b e h = grind (arith, nat_tests)
score_le Equal k a b e h = grind (arith, nat_tests)
score_le Greater k a b e h = cc

before_score : (x y : Match) → match_lt x y ≡ true → y.rank.score ≤ x.rank.score
before_score x y h = score_le (nat_cmp y.rank.score x.rank.score)
    (slice_cmp nat_cmp x.bytes y.bytes) x.rank.score y.rank.score refl h

entry_score : (o k t r : Ordering) (a b : ℕ) → nat_cmp b a ≡ o
    → is_lt (ordering_then (ordering_then (ordering_then o k) t) r) ≡ false → a ≤ b
entry_score Less k t r a b e h = cc
entry_score Equal k t r a b e h = grind (arith, nat_tests)
entry_score Greater k t r a b e h = grind (arith, nat_tests)

module _ (all order : List Match) (P : Queued → Type 0) (reached : List Match) (starts k : ℕ)
    (d : PlainDesk) (rows : List Rank)
    (b : Between all P reached k d rows) (l : IsListing all starts) (one : starts ≤ 1)
    (o : IsInOrder all order) where
  abbrev p : Progress all P reached d.room [] d.waiting d.reached d.dropped None
  p = between-progress all P reached k d rows b

  module _ (f : Queued) (empty : d.waiting ≡ []) (dropped : d.dropped ≡ Some f)
      (few : length rows < k) where
    first : IsFirst p.dropped (Some f)
    first = subst (λ z. IsFirst p.dropped z) dropped p.is_first

    best_f : Best all f
    best_f = (p.left_sound f (inr (inr first.0))).0

    abbrev m0 : Match
    m0 = best_f.met.0

    sum_two : (m : Match) → In m all
        → 2 ≤ passing (λ t. covers m t.now)
        p.taken + (0 + (passing (covers m) d.waiting + passing (covers m) p.dropped)) → ⊥
    sum_two m i h = let c = p.cover m i in omega (arith, c, h)

    not_reached : In m0 reached → ⊥
    not_reached i =
        let t = beside-back (λ (u : Taken) n. Ends all u.now n) m0 p.taken reached p.ended i in
        let x = passing-in (λ (u : Taken). covers m0 u.now) t.0 p.taken t.1 t.2.over in
        let y = passing-in (covers m0) f p.dropped first.0 best_f.met.2 in
        sum_two m0 best_f.met.1 (omega (arith, x, y))

    room_at : (p.dropped ≡ []) ⊎ (length d.waiting + d.reached ≡ d.room) → length reached ≡ d.room
    room_at (inl h) = absurd (subst (λ z. In f z) h first.0)
    room_at (inr h) =
        let x = beside-length (λ (t : Taken) m. Ends all t.now m) p.taken reached p.ended in
        let y = p.counted in
        let z : length d.waiting ≡ 0 = ap length empty in
        omega (arith, h, x, y, z)

    full_room : length reached ≡ d.room
    full_room = room_at p.full

    front_room : (x : Match) → In x (take d.room order) → In x reached
    front_room x i = (reached_is all order P reached starts k d rows b l one o x).0
        (subst (λ n. In x (take n order)) (sym full_room) i)

    in_rest : In m0 (drop d.room order)
    in_rest = elim (in-drop_or_take m0 d.room order (o.has m0 best_f.met.1)) as
        (λ _. In m0 (drop d.room order))
        [ inl i ↦ absurd (not_reached (front_room m0 i)) | inr i ↦ i ]

    module _ (next : Match) (after : List Match) (rest : drop d.room order ≡ next ∷ after) where
      next_in_rest : In next (drop d.room order)
      next_in_rest = subst (λ z. In next z) (sym rest) (inl refl)

      next_in_all : In next all
      next_in_all = o.from next (in_drop next d.room order next_in_rest)

      next_unreached : In next reached → ⊥
      next_unreached i =
          never_before_itself next (take_before_drop next next d.room order o.rising
          (subst (λ n. In next (take n order)) full_room
          ((reached_is all order P reached starts k d rows b l one o next).1 i))
          next_in_rest)

      over_next : (e : Queued) × In e p.dropped × (covers next e ≡ true)
      over_next =
          elim (reached_or_left all P reached d.room starts d.waiting d.reached d.dropped p l next
          next_in_all) as (λ _. (e : Queued) × In e p.dropped × (covers next e ≡ true)) [
            | inl i ↦ absurd (next_unreached i)
            | inr w ↦ (
              w.0,
              elim w.1 as (λ _. In w.0 p.dropped)
                  [ inl j ↦ absurd (subst (λ z. In w.0 z) empty j) | inr j ↦ j ],
              w.2,
            )
          ]

      abbrev x : Queued
      x = over_next.0

      best_x : Best all x
      best_x = (p.left_sound x (inr (inr over_next.1))).0

      m0_at : (m0 ≡ next) ⊎ (match_lt next m0 ≡ true)
      m0_at =
          elim (subst (λ z. In m0 z) rest in_rest) as
          (λ _. (m0 ≡ next) ⊎ (match_lt next m0 ≡ true)) [
            | inl e ↦ inl e
            | inr i ↦ inr ((subst Rising rest (rising_drop d.room order o.rising)).0 m0 i)
          ]

      score_low : f.entry.score ≤ next.rank.score
      score_low =
          subst (λ n. n ≤ next.rank.score) best_f.met.3
          (elim m0_at as (λ _. m0.rank.score ≤ next.rank.score) [
            | inl e ↦ subst (λ z. m0.rank.score ≤ z.rank.score) e (omega arith)
            | inr h ↦ before_score next m0 h
          ])

      score_mid : next.rank.score ≤ x.entry.score
      score_mid = best_x.bound next next_in_all over_next.2

      score_high : x.entry.score ≤ f.entry.score
      score_high =
          entry_score (nat_cmp f.entry.score x.entry.score)
          (slice_cmp nat_cmp (key_part x.bytes) (key_part f.bytes))
          (nat_cmp x.entry.start f.entry.start)
          (slice_cmp nat_cmp (rest_part x.bytes) (rest_part f.bytes)) x.entry.score
          f.entry.score refl (first.1 x over_next.1)

      score_is : f.entry.score ≡ next.rank.score
      score_is =
          let q = score_low in
          let r = score_mid in
          let t = score_high in
          omega (arith, q, r, t)

      abbrev under : Queued → Match → Queued
      under e m = queued (record {
        score = m.rank.score;
        start = e.entry.start;
        boost =
            e.entry.boost;
        node = e.entry.node;
        cost = e.entry.cost;
        ordinal =
            e.entry.ordinal;
      }) m.bytes

      same_start : f.entry.start ≡ x.entry.start
      same_start = covers-start m0 f best_f.met.2
          ∙ zero_start all order P reached starts k d rows b l one o m0 best_f.met.1
          ∙ sym (covers-start next x over_next.2
          ∙ zero_start all order P reached starts k d rows b l one o next next_in_all)

      before_next : entry_lt f x ≡ true → match_lt m0 next ≡ true
      before_next h =
          let differ : f ≡ x → ⊥ = λ e. not_both entry_lt entries_ordered f f
          (subst (λ z. entry_lt f z ≡ true) (sym e) h)
          (at_most_itself entry_lt entries_ordered f) in
          let apart : (m : Match) → In m all → covers m f ≡ true → covers m x ≡ true → ⊥ =
          λ m i cf cx. let q = passing-two (covers m) f x p.dropped differ cf cx first.0 over_next.1
          in sum_two m i (omega (arith, q)) in
          let u = begun_rest f.bytes m0.bytes (covers-bytes m0 f best_f.met.2) in
          let v = begun_rest x.bytes next.bytes (covers-bytes next x over_next.2) in
          let w = stays_before f x (under f m0) (under x next) u.0 v.0 same_start refl refl u.1 v.1
          best_f.met.3 score_mid (not_begun all f x best_x apart same_start) h in
          sym (ap is_lt (within_start (under f m0) (under x next) same_start)) ∙ w

      not_before : (c : Bool) → entry_lt f x ≡ c → entry_lt f x ≡ false
      not_before true e =
          absurd (elim m0_at as (λ _. ⊥) [
            | inl q ↦ never_before_itself next
                (subst (λ z. match_lt z next ≡ true) q (before_next e))
            | inr q ↦ never_both m0 next (before_next e) q
          ])
      not_before false e = e

      begins_next : begins f.bytes next.bytes ≡ true
      begins_next =
          let tie = tied_entries f x (not_before (entry_lt f x) refl) (first.1 x over_next.1) in
          subst (λ z. begins z next.bytes ≡ true) (sym tie.1) (covers-bytes next x over_next.2)

      key_is : begins (key_part f.bytes) next.rank.key ≡ true
      key_is =
          let u = begun_rest f.bytes next.bytes begins_next in
          subst (λ z. begins (key_part f.bytes) z ≡ true) (sym (l.keyed next next_in_all))
          (subst (λ z. begins (key_part f.bytes) (key_part z) ≡ true) (sym u.1)
          (begins-key_part f.bytes u.0))

      take_full : (n : ℕ) (xs : List Match) → (y : Match) (ys : List Match) → drop n xs ≡ y ∷ ys
          → length (take n xs) ≡ n
      take_full zero xs y ys e = refl
      take_full (suc n) [] y ys e = cc
      take_full (suc n) (z ∷ zs) y ys e = ap suc (take_full n zs y ys e)

      same_ranked : ranked (ranks_of (take d.room order)) ≡ ranked (ranks_of reached)
      same_ranked =
          ranked-same (ranks_of (take d.room order)) (ranks_of reached)
          (λ r i. let n = in-ranks_of r (take d.room order) i in
          subst (λ z. In z (ranks_of reached)) (sym n.3)
          (ranks_of-in n.0 reached n.2 (front_room n.0 n.1)))
          (λ r i. let n = in-ranks_of r reached i in
          subst (λ z. In z (ranks_of (take d.room order))) (sym n.3)
          (ranks_of-in n.0 (take d.room order) n.2
          (subst (λ k'. In n.0 (take k' order)) full_room
          ((reached_is all order P reached starts k d rows b l one o n.0).1
          n.1))))

      short_length : (n : ℕ) (xs : List Rank) → length (take n xs) < n → length xs < n
      short_length zero xs h = absurd (omega arith)
      short_length (suc n) [] h = omega arith
      short_length (suc n) (z ∷ zs) h = let r = short_length n zs (omega arith) in omega (arith, r)

      is_short : IsShort order k d.room next
      is_short = record {
        first = take d.room order;
        after = after;
        is = sym (take-append-drop d.room order) ∙ ap (λ zs. take d.room order ++ zs) rest;
        as_many = take_full d.room order next after rest;
        few =
            let q : length rows ≡ length (take k (ranked (ranks_of reached))) = ap length b.kept in
            let r : length (ranked (ranks_of reached)) < k =
            short_length k (ranked (ranks_of reached)) (omega (arith, q, few)) in
            let t : length (ranked (ranks_of (take d.room order)))
            ≡ length (ranked (ranks_of reached)) = ap length same_ranked in
            omega (arith, r, t);
      }

    exact_at : (generation : ℕ) (rest : List Match) → drop d.room order ≡ rest
        → IsExact order k d.room (Some (cut_at generation d.room f))
    exact_at generation [] e = absurd (subst (λ z. In m0 z) e in_rest)
    exact_at generation (next ∷ after) e =
        (next, is_short next after e, score_is next after e, key_is next after e)

    -- truncated: the segment is short, and the truncation point is at the next path
    pub exact-cut : (generation : ℕ) → IsExact order k d.room (Some (cut_at generation d.room f))
    exact-cut generation = exact_at generation (drop d.room order) refl
