-- What is true of a truncation point: the first of the dropped entries, when all paths that were
-- taken are reached and nothing is queued.
use Rattle.std.proofs.Common.{◌≡◌, ◌≤◌, ◌<◌, ◌+◌, ℕ, Bool, true, false, cond, not, ◌⊎◌, inl, inr}
use Rattle.std.proofs.Common.{List, [], ◌∷◌, length, map, refl, sym, ap, ◌∙◌, subst, arith}
use Rattle.std.specs.List.{filter}
use Rattle.std.specs.Prelude.{Some, None, nat_le}
use Rattle.std.proofs.lemmas.Bool.Decides.{nat_tests}
use Rattle.sg_base.specs.ByteStrings.{begins}
use Rattle.sg_base.specs.Cuts.{mark}
use Rattle.sg_base.specs.Lists.{In}
use Rattle.sg_base.proofs.ListLemmas.{in-map, in-filter, pairs-map}
use Rattle.sg_base.proofs.MarkLemmas.{mark_lt, marks_ordered}
use Rattle.sg_base.proofs.Orders.{at_most_trans}
use Rattle.path_desk.specs.Entries.{Queued, mark_of, key_part}
use Rattle.collector.proofs.ListLemmas.{map-length}
use Rattle.best_first.specs.Listings.{IsListing, mark_of_match}
use Rattle.best_first.specs.Lists.{passing}
use Rattle.best_first.specs.Matches.{Match, covers, Best, Ends}
use Rattle.best_first.specs.Progress.{Taken, Progress}
use Rattle.best_first.proofs.CompleteLemmas.{beside-find}
use Rattle.best_first.proofs.CoverLemmas.{covers-start, covers-bytes}
use Rattle.best_first.proofs.EntryLemmas.{mark_of-below, begun_rest, begins-key_part}
use Rattle.best_first.proofs.ListLemmas.{passing-in}
use Rattle.best_first.proofs.MarkLemmas.{score-at_most}
use Rattle.best_first.proofs.SpreadLemmas.{spread, pairs-filter, distinct_below, length-parts}
use Rattle.best_first.proofs.SpreadLemmas.{passing-filter}

no_member : (d : Queued) (ds : List Queued) → ds ≡ [] → In d ds → ⊥
no_member d ds e i = subst (λ z. In d z) e i

at_least : (a b : ℕ) → a ≤ b → nat_le a b ≡ true
at_least a b h = grind (arith, nat_tests)

counted_at : (b : Bool) (n : ℕ) → (b ≡ true → 1 ≤ n) → cond b 1 0 ≤ n
counted_at true n h = h refl
counted_at false n h = omega arith

passing-map : {X Y : Type 0} (f : X → Y) (p : Y → Bool) (xs : List X)
    → passing p (map f xs) ≡ passing (λ x. p (f x)) xs
passing-map f p [] = refl
passing-map f p (x ∷ xs) = ap (λ n. cond (p (f x)) 1 0 + n) (passing-map f p xs)

module _ (all : List Match) (P : Queued → Type 0) (reached : List Match) (room starts count : ℕ)
    (f : Queued)
    (s : Progress all P reached room [] [] count (Some f) None) (l : IsListing all starts) where
  is_dropped : In f s.dropped
  is_dropped = s.is_first.0

  -- the queue is at its room
  at_room : (s.dropped ≡ []) ⊎ (0 + count ≡ room) → length s.taken ≡ room
  at_room (inl h) = absurd (no_member f s.dropped h is_dropped)
  at_room (inr h) = let k = s.counted in omega (arith, h, k)

  pub taken_fill : length s.taken ≡ room
  taken_fill = at_room s.full

  dropped_sound : Best all f × P f
  dropped_sound = s.left_sound f (inr (inr is_dropped))

  -- more than the room have at least its score

  abbrev over : List Queued
  over = f ∷ map (λ t. t.now) s.taken

  over_one : (m : Match) → In m all → passing (covers m) over ≤ 1
  over_one m i =
      let h = s.cover m i in
      let d = counted_at (covers m f) (passing (covers m) s.dropped)
      (λ e. passing-in (covers m) f s.dropped is_dropped e) in
      let t = passing-map (λ (u : Taken). u.now) (covers m) s.taken in
      omega (arith, h, d, t)

  over_score : (e : Queued) → In e over → f.entry.score ≤ e.entry.score
  over_score e (inl h) = subst (λ z. f.entry.score ≤ z.entry.score) (sym h) (omega arith)
  over_score e (inr h) =
      let t = in-map (λ (u : Taken). u.now) e s.taken h in
      let le : f.entry.score ≤ t.0.was.score =
      score-at_most (mark_of f) t.0.was (s.best_first t.0 f t.1 (inr (inr is_dropped))) in
      let same = (s.grown t.0 t.1).1 in
      subst (λ z. f.entry.score ≤ z.entry.score) (sym t.2)
      (subst (λ n. f.entry.score ≤ n) (sym same) le)

  over_best : (e : Queued) → In e over → Best all e
  over_best e (inl h) = subst (λ z. Best all z) (sym h) dropped_sound.0
  over_best e (inr h) = let t = in-map (λ (u : Taken). u.now) e s.taken h in
      subst (λ z. Best all z) (sym t.2) (s.taken_sound t.0 t.1).0

  pub crowded : room < passing (λ m. nat_le f.entry.score m.rank.score) all
  crowded =
      let h = spread (λ m. nat_le f.entry.score m.rank.score) covers all over over_one
      (λ e i. let b = (over_best e i).met in (
        b.0,
        b.1,
        at_least f.entry.score b.0.rank.score
            (subst (λ n. f.entry.score ≤ n) (sym b.3) (over_score e i)),
        b.2,
      )) in
      let n = map-length (λ (u : Taken). u.now) s.taken in
      let k = taken_fill in
      omega (arith, h, n, k)

  -- a matching path has its score and a key that begins with its key

  pub met : (m : Match) × In m all × (m.rank.score ≡ f.entry.score)
      × (begins (key_part f.bytes) m.rank.key ≡ true)
  met =
      let b = dropped_sound.0.met in
      let under = begun_rest f.bytes b.0.bytes (covers-bytes b.0 f b.2) in
      let grows : begins (key_part f.bytes) (key_part b.0.bytes) ≡ true =
      subst (λ z. begins (key_part f.bytes) (key_part z) ≡ true) (sym under.1)
      (begins-key_part f.bytes under.0) in
      (b.0, b.1, b.3, subst (λ z. begins (key_part f.bytes) z ≡ true) (sym (l.keyed b.0 b.1)) grows)

  -- paths before or at it

  -- its mark isn't after the truncation point
  abbrev good : Taken → Bool
  good t = not (mark_lt (mark_of f) (mark_of t.now))

  abbrev pub up_to : Match → Bool
  up_to m = not (mark_lt (mark_of f) (mark_of_match m))

  start_below : (e : Queued) → Best all e → e.entry.start < starts
  start_below e b = subst (λ n. n < starts) (sym (covers-start b.met.0 e b.met.2))
      (l.within b.met.0 b.met.1)

  not_not : (b : Bool) → not (not b) ≡ true → b ≡ true
  not_not true h = refl
  not_not false h = cc

  different : (b a : Taken) → In b s.taken → In a s.taken → not (good b) ≡ true
      → not (good a) ≡ true
      → (a.now.entry.start ≡ b.now.entry.start → mark_lt b.was (mark_of a.now) ≡ false)
      → b.now.entry.start ≡ a.now.entry.start → ⊥
  different b a i j p q key same =
      let le : mark_lt (mark_of f) (mark_of a.now) ≡ false =
      at_most_trans mark_lt marks_ordered (mark_of a.now) b.was (mark_of f) (key (sym same))
      (s.best_first b f i (inr (inr is_dropped))) in
      let no : true ≡ false = sym (not_not (mark_lt (mark_of f) (mark_of a.now)) q) ∙ le in cc

  own_start : (b : Taken) → In b s.taken → not (good b) ≡ true → f.entry.start ≡ b.now.entry.start
      → ⊥
  own_start b i p same =
      let le : mark_lt (mark_of f) (mark_of b.now) ≡ false =
      mark_of-below b.now f (s.start_left b f i (inr (inr is_dropped)) (sym same)) in
      let no : true ≡ false = sym (not_not (mark_lt (mark_of f) (mark_of b.now)) p) ∙ le in cc

  abbrev bads : List Taken
  bads = filter (λ t. not (good t)) s.taken

  abbrev goods : List Taken
  goods = filter good s.taken

  bad_starts : length bads + 1 ≤ starts
  bad_starts =
      let n = map-length (λ (t : Taken). t.now.entry.start) bads in
      let h = distinct_below starts (f.entry.start ∷ map (λ t. t.now.entry.start) bads) (
        λ y i. let t = in-map (λ (u : Taken). u.now.entry.start) y bads i in
            let k = in-filter (λ u. not (good u)) t.0 s.taken t.1 in
            λ same. own_start t.0 k.0 k.1 (same ∙ t.2),
        pairs-map (λ (t : Taken). t.now.entry.start) (λ a b. a ≡ b → ⊥)
            (λ b a. b.now.entry.start ≡ a.now.entry.start → ⊥) bads (λ a b h. h)
            (pairs-filter (λ u. not (good u))
            (λ b a. a.now.entry.start ≡ b.now.entry.start
            → mark_lt b.was (mark_of a.now) ≡ false)
            (λ b a. b.now.entry.start ≡ a.now.entry.start → ⊥) s.taken s.key_order different),
      )
      (λ x i. elim i as (λ _. x < starts) [
        | inl k ↦ subst (λ n. n < starts) (sym k) (start_below f dropped_sound.0)
        | inr k ↦ let t = in-map (λ (u : Taken). u.now.entry.start) x bads k in
            let j = in-filter (λ u. not (good u)) t.0 s.taken t.1 in
            subst (λ n. n < starts) (sym t.2) (start_below t.0.now (s.taken_sound t.0 j.0).0)
      ]) in
      omega (arith, h, n)

  same_mark : (t : Taken) (m : Match) → In t s.taken → Ends all t.now m
      → mark_of_match m ≡ mark_of t.now
  same_mark t m i e =
      let b = (s.taken_sound t i).0.met in
      let same : b.0 ≡ m = e.alone b.0 b.1 b.2 in
      let score : m.rank.score ≡ t.now.entry.score = ap (λ z. z.rank.score) (sym same) ∙ b.3 in
      let key : m.rank.key ≡ key_part t.now.bytes = l.keyed m e.of ∙ ap key_part (sym e.bytes) in
      ap (λ n. mark n m.rank.key) score ∙ ap (λ k. mark t.now.entry.score k) key

  good_count : length goods ≤ passing up_to all
  good_count =
      let h = spread up_to (λ m (t : Taken). covers m t.now) all goods
      (λ m i.
      let c = s.cover m i in
      let p = passing-filter good (λ (t : Taken). covers m t.now) s.taken in
      omega (arith, c, p))
      (λ t i. let k = in-filter good t s.taken i in
      let e = beside-find (λ (u : Taken) n. Ends all u.now n) t s.taken reached s.ended k.0 in (
        e.0,
        e.2.of,
        subst (λ z. not (mark_lt (mark_of f) z) ≡ true)
            (sym (same_mark t e.0 k.0 e.2)) k.1,
        e.2.over,
      )) in
      h

  pub upto : room + 1 ≤ passing up_to all + starts
  upto =
      let g = good_count in
      let b = bad_starts in
      let p = length-parts good s.taken in
      let k = taken_fill in
      omega (arith, g, b, p, k)
