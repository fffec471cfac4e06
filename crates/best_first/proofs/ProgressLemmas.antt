-- The steps of a search keep what holds of it.
use Rattle.std.proofs.Common.{◌≡◌, ◌≤◌, ◌<◌, ◌+◌, ℕ, Bool, true, false, cond, ◌⊎◌, inl, inr, List}
use Rattle.std.proofs.Common.{[], ◌∷◌, length, refl, sym, ap, ◌∙◌, subst, arith}
use Rattle.std.specs.Prelude.{Option, Some, None, nat_lt}
use Rattle.std.proofs.lemmas.Bool.{ltb-true, ltb-false}
use Rattle.sg_base.specs.Lists.{In}
use Rattle.sg_base.specs.Ranking.{put_in}
use Rattle.sg_base.proofs.MarkLemmas.{mark_lt, marks_ordered}
use Rattle.sg_base.proofs.Orders.{at_most_itself, at_most_trans, below_trans, weaken, not_both}
use Rattle.path_desk.specs.Desks.{PlainQueue, queue, shed, put_queued, but_last, last_of, first_of}
use Rattle.path_desk.specs.Entries.{Queued, entry_cmp, mark_of}
use Rattle.path_desk.proofs.OrderLemmas.{entry_lt, entries_ordered}
use Rattle.path_desk.proofs.QueueLemmas.{length-put_in}
use Rattle.best_first.specs.Lists.{passing}
use Rattle.best_first.specs.Matches.{Match, covers, Best}
use Rattle.best_first.specs.Progress.{Taken, IsFirst, Left, Progress}
use Rattle.best_first.proofs.CoverLemmas.{strictly}
use Rattle.best_first.proofs.EntryLemmas.{mark_of-below}
use Rattle.best_first.proofs.ListLemmas.{passing-in, in_put, passing-put, rising-put, Rising}
use Rattle.best_first.proofs.ListLemmas.{passing-last, in_but_last, in_last, length-but_last}
use Rattle.best_first.proofs.ListLemmas.{pairs-but_last, before_last}

below : (a b c : Queued) → entry_lt a b ≡ true → entry_lt b c ≡ true → entry_lt a c ≡ true
below a b c p q = below_trans entry_lt entries_ordered a b c p q

abbrev taken_as : Queued → Taken
taken_as e = record { now = e; was = mark_of e }

module _ (all : List Match) (P : Queued → Type 0) (reached : List Match) (room : ℕ) where
  -- the first queued entry is taken

  module _ (e : Queued) (rest : List Queued) (count : ℕ) (first : Option Queued)
      (p : Progress all P reached room [] (e ∷ rest) count first None) where
    take_left : (x : Queued) → Left [] rest p.dropped x → Left [] (e ∷ rest) p.dropped x
    take_left x (inl h) = elim h [ ]
    take_left x (inr (inl h)) = inr (inl (inr h))
    take_left x (inr (inr h)) = inr (inr h)

    take_before : (x : Queued) → Left [] rest p.dropped x → entry_lt e x ≡ true
    take_before x (inl h) = elim h [ ]
    take_before x (inr (inl h)) = p.rising.0 x h
    take_before x (inr (inr h)) = p.before e x (inl refl) h

    take_cover : (m : Match) → In m all
        → cond (covers m e) 1 0 + passing (λ t. covers m t.now)
        p.taken + (0 + (passing (covers m) rest + passing (covers m) p.dropped)) ≡ 1
    take_cover m i = let h = p.cover m i in omega (arith, h)

    take_sound : (t : Taken) → In t (taken_as e ∷ p.taken) → Best all t.now × P t.now
    take_sound t (inl h) = subst (λ z. Best all z.now × P z.now) (sym h)
        (p.left_sound e (inr (inl (inl refl))))
    take_sound t (inr h) = p.taken_sound t h

    take_start : (t : Taken) (x : Queued) → In t (taken_as e ∷ p.taken) → Left [] rest p.dropped x
        → t.now.entry.start ≡ x.entry.start → entry_lt t.now x ≡ true
    take_start t x (inl h) l s = subst (λ z. entry_lt z.now x ≡ true) (sym h) (take_before x l)
    take_start t x (inr h) l s = p.start_left t x h (take_left x l) s

    take_best : (t : Taken) (x : Queued) → In t (taken_as e ∷ p.taken) → Left [] rest p.dropped x
        → mark_lt (mark_of x) t.was ≡ false
    take_best t x (inl h) l = subst (λ z. mark_lt (mark_of x) z.was ≡ false) (sym h)
        (mark_of-below e x (take_before x l))
    take_best t x (inr h) l = p.best_first t x h (take_left x l)

    take_grown : (t : Taken) → In t (taken_as e ∷ p.taken)
        → (mark_lt (mark_of t.now) t.was ≡ false) × (t.now.entry.score ≡ t.was.score)
    take_grown t (inl h) = subst (λ z. (mark_lt (mark_of z.now) z.was ≡ false)
        × (z.now.entry.score ≡ z.was.score)) (sym h)
        (at_most_itself mark_lt marks_ordered (mark_of e), refl)
    take_grown t (inr h) = p.grown t h

    take_full : (p.dropped ≡ []) ⊎ (length (e ∷ rest) + count ≡ room)
        → (p.dropped ≡ []) ⊎ (length rest + (count + 1) ≡ room)
    take_full (inl h) = inl h
    take_full (inr h) = inr (omega (arith, h))

    pub progress-take : Progress all P reached room [] rest (count + 1) first (Some e)
    progress-take = record {
      taken = taken_as e ∷ p.taken;
      dropped = p.dropped;
      counted = let h = p.counted in omega (arith, h);
      cover = take_cover;
      taken_sound = take_sound;
      left_sound = λ x l. p.left_sound x (take_left x l);
      rising = p.rising.1;
      before = λ q d i j. p.before q d (inr i) j;
      is_first = p.is_first;
      fits = let h = p.fits in omega (arith, h);
      full = take_full p.full;
      start_order = (λ t i s. p.start_left t e i (inr (inl (inl refl))) s, p.start_order);
      start_left = take_start;
      best_first = take_best;
      key_order = (
        λ t i s. mark_of-below t.now e (p.start_left t e i (inr (inl (inl refl))) s),
        p.key_order,
      );
      was_order = (λ t i. p.best_first t e i (inr (inl (inl refl))), p.was_order);
      grown = take_grown;
      is_current = refl;
      ended = p.ended;
    }

  -- an entry is put in

  module _ (x : Queued) (pending waiting : List Queued) (count : ℕ) (first current : Option Queued)
      (p : Progress all P reached room (x ∷ pending) waiting count first current) where
    is_apart : (y : Queued) → In y waiting → entry_lt y x ≡ false → entry_lt x y ≡ true
    is_apart y i h =
        strictly all x y (p.left_sound y (inr (inl i))).0
        (λ m j a b.
        let one = p.cover m j in
        let l = passing-in (covers m) x (x ∷ pending) (inl refl) a in
        let r = passing-in (covers m) y waiting i b in
        omega (arith, one, l, r)) h

    put_rising : Rising (put_in entry_cmp x waiting)
    put_rising = rising-put below x waiting p.rising is_apart

    none_dropped : length waiting + count < room
        → (p.dropped ≡ []) ⊎ (length waiting + count ≡ room) → p.dropped ≡ []
    none_dropped l (inl h) = h
    none_dropped l (inr h) = absurd (omega (arith, h))

    room_left : (e : Queued) → Left pending (put_in entry_cmp x waiting) p.dropped e
        → Left (x ∷ pending) waiting p.dropped e
    room_left e (inl h) = inl (inr h)
    room_left e (inr (inl h)) = elim (in_put e x waiting h) as
        (λ _. Left (x ∷ pending) waiting p.dropped e) [ inl k ↦ inl (inl k) | inr k ↦ inr (inl k) ]
    room_left e (inr (inr h)) = inr (inr h)

    room_cover : (m : Match) → In m all
        → passing (λ t. covers m t.now)
        p.taken + (passing (covers m) pending + (passing (covers m)
        (put_in entry_cmp x waiting) + passing (covers m) p.dropped)) ≡ 1
    room_cover m i =
        let h = p.cover m i in
        let e = passing-put (covers m) x waiting in
        omega (arith, h, e)

    no_member : (d : Queued) (ds : List Queued) → ds ≡ [] → In d ds → ⊥
    no_member d ds e i = subst (λ z. In d z) e i

    progress-put_within : length waiting + count < room
        → Progress all P reached room pending (put_in entry_cmp x waiting) count first current
    progress-put_within l = record {
      taken = p.taken;
      dropped = p.dropped;
      counted = p.counted;
      cover = room_cover;
      taken_sound = p.taken_sound;
      left_sound = λ e h. p.left_sound e (room_left e h);
      rising = put_rising;
      before = λ q d i j. absurd (no_member d p.dropped (none_dropped l p.full) j);
      is_first = p.is_first;
      fits = let e = length-put_in x waiting in omega (arith, l, e);
      full = inl (none_dropped l p.full);
      start_order = p.start_order;
      start_left = λ t e i h s. p.start_left t e i (room_left e h) s;
      best_first = λ t e i h. p.best_first t e i (room_left e h);
      key_order = p.key_order;
      was_order = p.was_order;
      grown = p.grown;
      is_current = p.is_current;
      ended = p.ended;
    }

    module _ (y : Queued) (ys : List Queued) (is : put_in entry_cmp x waiting ≡ y ∷ ys)
        (l : room ≤ length waiting + count) where
      abbrev last_entry : Queued
      last_entry = last_of y ys

      in_all : (e : Queued) → In e (y ∷ ys) → (e ≡ x) ⊎ In e waiting
      in_all e h = in_put e x waiting (subst (λ z. In e z) (sym is) h)

      all_rising : Rising (y ∷ ys)
      all_rising = subst Rising is put_rising

      new_or_old : (e : Queued) → (e ≡ x) ⊎ In e waiting → Left (x ∷ pending) waiting p.dropped e
      new_or_old e (inl k) = inl (inl k)
      new_or_old e (inr k) = inr (inl k)

      full_left : (e : Queued) → Left pending (but_last y ys) (last_entry ∷ p.dropped) e
          → Left (x ∷ pending) waiting p.dropped e
      full_left e (inl h) = inl (inr h)
      full_left e (inr (inl h)) = new_or_old e (in_all e (in_but_last e y ys h))
      full_left e (inr (inr (inl h))) =
          new_or_old e (in_all e (subst (λ z. In z (y ∷ ys)) (sym h) (in_last y ys)))
      full_left e (inr (inr (inr h))) = inr (inr h)

      full_cover : (m : Match) → In m all
          → passing (λ t. covers m t.now)
          p.taken + (passing (covers m) pending + (passing (covers m)
          (but_last y ys) + (cond (covers m last_entry) 1 0 + passing (covers m)
          p.dropped))) ≡ 1
      full_cover m i =
          let h = p.cover m i in
          let e = passing-put (covers m) x waiting in
          let f : passing (covers m) (put_in entry_cmp x waiting) ≡ passing (covers m) (y ∷ ys) =
          ap (passing (covers m)) is in
          let g : passing (covers m) (y ∷ ys)
          ≡ passing (covers m) (but_last y ys) + cond (covers m last_entry) 1 0 =
          passing-last (covers m) y ys in
          omega (arith, h, e, f, g)

      kept_before : (q d : Queued) → In q (but_last y ys) → In d p.dropped
          → entry_lt q last_entry ≡ true → (q ≡ x) ⊎ In q waiting
          → (last_entry ≡ x) ⊎ In last_entry waiting → entry_lt q d ≡ true
      kept_before q d i j b (inr k) r = p.before q d k j
      kept_before q d i j b (inl k) (inl r) =
          let self : entry_lt q q ≡ true = subst (λ z. entry_lt q z ≡ true) (r ∙ sym k) b in
          absurd (not_both entry_lt entries_ordered q q self
          (at_most_itself entry_lt entries_ordered q))
      kept_before q d i j b (inl k) (inr r) = below q last_entry d b (p.before last_entry d r j)

      full_before : (q d : Queued) → In q (but_last y ys) → In d (last_entry ∷ p.dropped)
          → entry_lt q d ≡ true
      full_before q d i (inl h) = subst (λ z. entry_lt q z ≡ true) (sym h)
          (before_last (λ a b. entry_lt a b ≡ true) q y ys all_rising i)
      full_before q d i (inr h) =
          kept_before q d i h (before_last (λ a b. entry_lt a b ≡ true) q y ys all_rising i)
          (in_all q (in_but_last q y ys i)) (in_all last_entry (in_last y ys))

      first_at : (b : Bool) (f : Queued) → entry_lt f last_entry ≡ b → In f p.dropped
          → ((d : Queued) → In d p.dropped → entry_lt d f ≡ false)
          → IsFirst (last_entry ∷ p.dropped) (Some (cond b f last_entry))
      first_at true f e i least = (
        inr i,
        λ d j. elim j as (λ _. entry_lt d f ≡ false) [
          | inl k ↦ subst (λ z. entry_lt z f ≡ false) (sym k)
              (weaken entry_lt entries_ordered f last_entry e)
          | inr k ↦ least d k
        ],
      )
      first_at false f e i least = (
        inl refl,
        λ d j. elim j as (λ _. entry_lt d last_entry ≡ false) [
          | inl k ↦ subst (λ z. entry_lt z last_entry ≡ false) (sym k)
              (at_most_itself entry_lt entries_ordered last_entry)
          | inr k ↦ at_most_trans
              entry_lt entries_ordered last_entry f d e (least d k)
        ],
      )

      full_first : (o : Option Queued) → IsFirst p.dropped o
          → IsFirst (last_entry ∷ p.dropped) (Some (first_of last_entry o))
      full_first None h = (
        inl refl,
        λ d j. elim j as (λ _. entry_lt d last_entry ≡ false) [
          | inl k ↦ subst (λ z. entry_lt z last_entry ≡ false) (sym k)
              (at_most_itself entry_lt entries_ordered last_entry)
          | inr k ↦ absurd
              (no_member d p.dropped h k)
        ],
      )
      full_first (Some f) h = first_at (entry_lt f last_entry) f refl h.0 h.1

      full_length : length (but_last y ys) ≡ length waiting
      full_length =
          let e : length (put_in entry_cmp x waiting) ≡ length (y ∷ ys) = ap length is in
          let f = length-put_in x waiting in
          let g = length-but_last y ys in
          omega (arith, e, f, g)

      progress-put_full : Progress all P reached room pending (but_last y ys) count
          (Some (first_of last_entry first)) current
      progress-put_full = record {
        taken = p.taken;
        dropped = last_entry ∷ p.dropped;
        counted = p.counted;
        cover = full_cover;
        taken_sound = p.taken_sound;
        left_sound = λ e h. p.left_sound e (full_left e h);
        rising = pairs-but_last (λ a b. entry_lt a b ≡ true) y ys all_rising;
        before = full_before;
        is_first = full_first first p.is_first;
        fits =
            let e = full_length in
            let h = p.fits in
            omega (arith, e, h);
        full = inr (let e = full_length in let h = p.fits in omega (arith, e, h, l));
        start_order = p.start_order;
        start_left = λ t e i h s. p.start_left t e i (full_left e h) s;
        best_first = λ t e i h. p.best_first t e i (full_left e h);
        key_order = p.key_order;
        was_order = p.was_order;
        grown = p.grown;
        is_current = p.is_current;
        ended = p.ended;
      }

    abbrev pub AfterPut : PlainQueue → Type 0
    AfterPut q = Progress all P reached room pending q.waiting count q.dropped current

    put_full_at : (all' : List Queued) → put_in entry_cmp x waiting ≡ all'
        → room ≤ length waiting + count → AfterPut (shed all' first)
    put_full_at [] is l = absurd (let e : length (put_in entry_cmp x waiting) ≡ 0 =
        ap length is in let f = length-put_in x waiting in omega (arith, e, f))
    put_full_at (y ∷ ys) is l = progress-put_full y ys is l

    put_at : (b : Bool) → nat_lt (length waiting + count) room ≡ b
        → AfterPut (put_queued b x (queue waiting first))
    put_at true e = progress-put_within (ltb-true (length waiting + count) room e)
    put_at false e = put_full_at (put_in entry_cmp x waiting) refl
        (ltb-false (length waiting + count) room e)

    pub progress-put : AfterPut (put_queued (nat_lt (length waiting + count) room) x
        (queue waiting first))
    progress-put = put_at (nat_lt (length waiting + count) room) refl
