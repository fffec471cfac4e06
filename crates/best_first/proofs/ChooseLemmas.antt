-- The followed path goes on along one arc, and the other arcs become entries to put in.
use Rattle.std.proofs.Common.{◌≡◌, ◌≤◌, ◌+◌, ℕ, Bool, true, false, cond, inl, inr, List, [], ◌∷◌}
use Rattle.std.proofs.Common.{length, refl, sym, ap, ◌∙◌, subst, arith}
use Rattle.std.specs.Prelude.{Option, Some, None}
use Rattle.std.proofs.lemmas.List.{append-nil}
use Rattle.sg_base.specs.ByteStrings.{begins}
use Rattle.sg_base.specs.Lists.{In, Pairs}
use Rattle.sg_base.proofs.MarkLemmas.{mark_lt, marks_ordered}
use Rattle.sg_base.proofs.Orders.{at_most_trans}
use Rattle.path_desk.specs.Entries.{Queued, mark_of}
use Rattle.path_desk.proofs.OrderLemmas.{entry_lt}
use Rattle.best_first.specs.Families.{IsChild, IsFamily}
use Rattle.best_first.specs.Lists.{passing, Beside}
use Rattle.best_first.specs.Matches.{Match, covers, Best, Ends}
use Rattle.best_first.specs.Progress.{Taken, IsCurrent, ended_of, Left, Progress}
use Rattle.best_first.proofs.CoverLemmas.{not_begun}
use Rattle.best_first.proofs.EntryLemmas.{mark_of-under, stays_before}
use Rattle.best_first.proofs.ListLemmas.{passing-in}

abbrev goes_on : Queued → Taken → Taken
goes_on c t = record { now = c; was = t.was }

-- fields that speak of the taken ones, over a list with a first one
module _ (all : List Match) (P : Queued → Type 0) (reached : List Match) (room : ℕ) (p c : Queued)
    (siblings waiting : List Queued) (count : ℕ) (first : Option Queued)
    (s : Progress all P reached room [] waiting count first (Some p))
    (f : IsFamily all P p c siblings) where
  under : (e : Queued) → IsChild p e → mark_lt (mark_of e) (mark_of p) ≡ false
  under e h = mark_of-under p e (h.0 ∷ []) h.2 h.3

  module _ (t : Taken) (older : List Taken) (is : s.taken ≡ t ∷ older) where
    now_is : t.now ≡ p
    now_is = subst (IsCurrent (Some p)) is s.is_current

    first_taken : In t s.taken
    first_taken = subst (λ z. In t z) (sym is) (inl refl)

    older_taken : (a : Taken) → In a older → In a s.taken
    older_taken a i = subst (λ z. In a z) (sym is) (inr i)

    best_now : Best all p
    best_now = subst (λ z. Best all z) now_is (s.taken_sound t first_taken).0

    cover_now : (m : Match) → In m all
        → cond (covers m p) 1 0 + passing (λ u. covers m u.now)
        older + (0 + (passing (covers m) waiting + passing (covers m) s.dropped)) ≡ 1
    cover_now m i =
        let Q : List Taken → Type 0 = λ ts. passing (λ u. covers m u.now)
        ts + (0 + (passing (covers m) waiting + passing (covers m) s.dropped)) ≡ 1 in
        let h : Q (t ∷ older) = subst Q is (s.cover m i) in
        subst (λ z. cond (covers m z) 1 0 + passing (λ u. covers m u.now)
        older + (0 + (passing (covers m) waiting + passing (covers m) s.dropped)) ≡ 1)
        now_is h

    pairs : (R : Taken → Taken → Type 0) → Pairs R s.taken → Pairs R (t ∷ older)
    pairs R h = subst (Pairs R) is h

    one : (b : Bool) (n : ℕ) → b ≡ true → cond b 1 0 + n ≡ 1 + n
    one true n e = refl
    one false n e = cc

    -- an older path shares nothing with the followed one
    older_apart : (a : Taken) → In a older → (m : Match) → In m all → covers m a.now ≡ true
        → covers m p ≡ true → ⊥
    older_apart a i m j ha hp =
        let h = cover_now m j in
        let l = passing-in (λ (u : Taken). covers m u.now) a older i ha in
        let r = one (covers m p) (passing (λ u. covers m u.now) older) hp in
        omega (arith, h, l, r)

    abbrev Old : Queued → Type 0
    Old e = Left [] waiting s.dropped e

    left_apart : (e : Queued) → Old e → (m : Match) → In m all → covers m p ≡ true
        → covers m e ≡ true → ⊥
    left_apart e (inl i) m j hp he = elim i [ ]
    left_apart e (inr (inl i)) m j hp he =
        let h = cover_now m j in
        let l = passing-in (covers m) e waiting i he in
        let r = one (covers m p) (passing (λ u. covers m u.now) older) hp in
        omega (arith, h, l, r)
    left_apart e (inr (inr i)) m j hp he =
        let h = cover_now m j in
        let l = passing-in (covers m) e s.dropped i he in
        let r = one (covers m p) (passing (λ u. covers m u.now) older) hp in
        omega (arith, h, l, r)

    -- an older path of the start is before the followed one, and before each child of it
    older_before : (a : Taken) → In a older → a.now.entry.start ≡ p.entry.start
        → entry_lt a.now p ≡ true
    older_before a i e =
        let h : a.now.entry.start ≡ t.now.entry.start → entry_lt a.now t.now ≡ true =
        (pairs (λ b a. a.now.entry.start ≡ b.now.entry.start → entry_lt a.now b.now ≡ true)
        s.start_order).0 a i in
        subst (λ z. a.now.entry.start ≡ z.entry.start → entry_lt a.now z ≡ true) now_is h e

    older_before_child : (a : Taken) → In a older → (e : Queued) → IsChild p e
        → a.now.entry.start ≡ e.entry.start → entry_lt a.now e ≡ true
    older_before_child a i e h same =
        let start : a.now.entry.start ≡ p.entry.start = same ∙ h.1 in
        stays_before a.now p a.now e [] (h.0 ∷ []) start refl h.1 (sym (append-nil a.now.bytes)) h.2
        refl h.3
        (not_begun all a.now p best_now (older_apart a i) start) (older_before a i start)

    -- the chosen child is before all that is left of the start
    chosen_before_old : (e : Queued) → Old e → c.entry.start ≡ e.entry.start → entry_lt c e ≡ true
    chosen_before_old e l same =
        let ch = f.child in
        let start : p.entry.start ≡ e.entry.start = sym ch.1 ∙ same in
        let h : entry_lt t.now e ≡ true =
        s.start_left t e first_taken l (ap (λ z. z.entry.start) now_is ∙ start) in
        let h' : entry_lt p e ≡ true = subst (λ z. entry_lt z e ≡ true) now_is h in
        let none : begins p.bytes e.bytes ≡ false =
        not_begun all p e (s.left_sound e l).0 (left_apart e l) start in
        let le : e.entry.score ≤ e.entry.score = omega arith in
        stays_before p e c e (ch.0 ∷ []) [] start ch.1 refl ch.2 (sym (append-nil e.bytes))
        f.same_score le none h'

    abbrev New : Queued → Type 0
    New e = Left siblings waiting s.dropped e

    choose_cover : (m : Match) → In m all
        → cond (covers m c) 1 0 + passing (λ u. covers m u.now)
        older + (passing (covers m) siblings + (passing (covers m) waiting + passing (covers m)
        s.dropped)) ≡ 1
    choose_cover m i =
        let h = cover_now m i in
        let g = f.parted m i in
        omega (arith, h, g)

    choose_sound : (u : Taken) → In u (goes_on c t ∷ older) → Best all u.now × P u.now
    choose_sound u (inl h) = subst (λ z. Best all z.now × P z.now) (sym h) f.child_sound
    choose_sound u (inr h) = s.taken_sound u (older_taken u h)

    choose_left_sound : (e : Queued) → New e → Best all e × P e
    choose_left_sound e (inl i) = f.sibling_sound e i
    choose_left_sound e (inr h) = s.left_sound e (inr h)

    choose_start : (u : Taken) (e : Queued) → In u (goes_on c t ∷ older) → New e
        → u.now.entry.start ≡ e.entry.start → entry_lt u.now e ≡ true
    choose_start u e (inl h) (inl i) same =
        subst (λ z. entry_lt z.now e ≡ true) (sym h) (f.sibling e i).1
    choose_start u e (inl h) (inr l) same =
        subst (λ z. z.now.entry.start ≡ e.entry.start → entry_lt z.now e ≡ true) (sym h)
        (chosen_before_old e (inr l)) same
    choose_start u e (inr h) (inl i) same = older_before_child u h e (f.sibling e i).0 same
    choose_start u e (inr h) (inr l) same = s.start_left u e (older_taken u h) (inr l) same

    was_before_now : mark_lt (mark_of p) t.was ≡ false
    was_before_now = subst (λ z. mark_lt (mark_of z) t.was ≡ false) now_is (s.grown t first_taken).0

    older_was : (a : Taken) → In a older → mark_lt t.was a.was ≡ false
    older_was a i = (pairs (λ b a. mark_lt b.was a.was ≡ false) s.was_order).0 a i

    was_before : (e : Queued) → mark_lt (mark_of e) (mark_of p) ≡ false
        → mark_lt (mark_of e) t.was ≡ false
    was_before e h = at_most_trans mark_lt marks_ordered t.was (mark_of p) (mark_of e)
        was_before_now h

    choose_best : (u : Taken) (e : Queued) → In u (goes_on c t ∷ older) → New e
        → mark_lt (mark_of e) u.was ≡ false
    choose_best u e (inl h) (inl i) =
        subst (λ z. mark_lt (mark_of e) z.was ≡ false) (sym h)
        (was_before e (under e (f.sibling e i).0))
    choose_best u e (inl h) (inr l) =
        subst (λ z. mark_lt (mark_of e) z.was ≡ false) (sym h)
        (s.best_first t e first_taken (inr l))
    choose_best u e (inr h) (inl i) =
        at_most_trans mark_lt marks_ordered u.was t.was (mark_of e) (older_was u h)
        (was_before e (under e (f.sibling e i).0))
    choose_best u e (inr h) (inr l) = s.best_first u e (older_taken u h) (inr l)

    choose_grown : (u : Taken) → In u (goes_on c t ∷ older)
        → (mark_lt (mark_of u.now) u.was ≡ false) × (u.now.entry.score ≡ u.was.score)
    choose_grown u (inl h) =
        subst (λ z. (mark_lt (mark_of z.now) z.was ≡ false) × (z.now.entry.score ≡ z.was.score))
        (sym h) (
          was_before c (under c f.child),
          f.same_score ∙ ap (λ z. z.entry.score) (sym now_is)
              ∙ (s.grown t first_taken).1,
        )
    choose_grown u (inr h) = s.grown u (older_taken u h)

    choose_at : Progress all P reached room siblings waiting count first (Some c)
    choose_at = record {
      taken = goes_on c t ∷ older;
      dropped = s.dropped;
      counted = sym (ap length is) ∙ s.counted;
      cover = choose_cover;
      taken_sound = choose_sound;
      left_sound = choose_left_sound;
      rising = s.rising;
      before = s.before;
      is_first = s.is_first;
      fits = s.fits;
      full = s.full;
      start_order = (
        λ a i same. older_before_child a i c f.child same,
        (pairs (λ b a. a.now.entry.start ≡ b.now.entry.start → entry_lt a.now b.now ≡ true)
            s.start_order).1,
      );
      start_left = choose_start;
      best_first = choose_best;
      key_order = (
        λ a i same. (pairs
            (λ b a. a.now.entry.start ≡ b.now.entry.start
            → mark_lt b.was (mark_of a.now) ≡ false) s.key_order).0 a i
            (same ∙ f.child.1 ∙ ap (λ z. z.entry.start) (sym now_is)),
        (pairs (λ b a. a.now.entry.start ≡ b.now.entry.start
            → mark_lt b.was (mark_of a.now) ≡ false) s.key_order).1,
      );
      was_order = (
        (pairs (λ b a. mark_lt b.was a.was ≡ false) s.was_order).0,
        (pairs (λ b a. mark_lt b.was a.was ≡ false) s.was_order).1,
      );
      grown = choose_grown;
      is_current = refl;
      ended = subst (λ z. Beside (λ u m. Ends all u.now m) (ended_of (Some p) z) reached) is
          s.ended;
    }

  choose_by : (ts : List Taken) → s.taken ≡ ts
      → Progress all P reached room siblings waiting count first (Some c)
  choose_by [] is = elim (subst (IsCurrent (Some p)) is s.is_current) [ ]
  choose_by (t ∷ older) is = choose_at t older is

  pub progress-choose : Progress all P reached room siblings waiting count first (Some c)
  progress-choose = choose_by s.taken refl

-- the followed path is at its end
module _ (all : List Match) (P : Queued → Type 0) (reached : List Match) (room : ℕ) (p : Queued)
    (pending waiting : List Queued) (count : ℕ) (first : Option Queued)
    (s : Progress all P reached room pending waiting count first (Some p)) (m : Match)
    (e : Ends all p m) where
  reach_ended : (ts : List Taken) → IsCurrent (Some p) ts
      → Beside (λ u n. Ends all u.now n) (ended_of (Some p) ts) reached
      → Beside (λ u n. Ends all u.now n) ts (m ∷ reached)
  reach_ended [] is h = elim is [ ]
  reach_ended (t ∷ older) is h = (subst (λ z. Ends all z m) (sym is) e, h)

  pub progress-reach : Progress all P (m ∷ reached) room pending waiting count first None
  progress-reach = record {
    taken = s.taken;
    dropped = s.dropped;
    counted = s.counted;
    cover = s.cover;
    taken_sound = s.taken_sound;
    left_sound = s.left_sound;
    rising = s.rising;
    before = s.before;
    is_first = s.is_first;
    fits = s.fits;
    full = s.full;
    start_order = s.start_order;
    start_left = s.start_left;
    best_first = s.best_first;
    key_order = s.key_order;
    was_order = s.was_order;
    grown = s.grown;
    is_current = tt;
    ended = reach_ended s.taken s.is_current s.ended;
  }

-- before anything is put in
pub progress-begin : (all : List Match) (P : Queued → Type 0) (room : ℕ) (pending : List Queued)
    → ((m : Match) → In m all → passing (covers m) pending ≡ 1)
    → ((e : Queued) → In e pending → Best all e × P e)
    → Progress all P [] room pending [] 0 None None
progress-begin all P room pending cover sound = record {
  taken = [];
  dropped = [];
  counted = refl;
  cover = λ m i. let h = cover m i in omega (arith, h);
  taken_sound = λ t i. elim i [ ];
  left_sound = λ e l. elim l as (λ _. Best all e × P e) [
    | inl i ↦ sound e i
    | inr j ↦ elim j as (λ _. Best all e × P e)
        [ inl i ↦ elim i [ ] | inr i ↦ elim i [ ] ]
  ];
  rising = tt;
  before = λ q d i j. elim i [ ];
  is_first = refl;
  fits = omega arith;
  full = inl refl;
  start_order = tt;
  start_left = λ t e i l same. elim i [ ];
  best_first = λ t e i l. elim i [ ];
  key_order = tt;
  was_order = tt;
  grown = λ t i. elim i [ ];
  is_current = tt;
  ended = tt;
}
