-- What a later record says of a generation that was drawn: it keeps its segment, its live docs know
-- no fewer deletes, and where it isn't current it never is again.
use Rattle.std.proofs.Common.{◌≡◌, ◌≤◌, ◌<◌, ◌+◌, ℕ, zero, suc, Bool, true, false, cond, not}
use Rattle.std.proofs.Common.{nat_eq, ◌&&◌, ◌||◌, Option, Some, None, List, [], ◌∷◌, ◌++◌, length}
use Rattle.std.proofs.Common.{take, refl, sym, ap, ◌∙◌, subst, arith}
use Rattle.std.proofs.Common.{length-append}
use Rattle.std.specs.Prelude.{filter}
use Rattle.std.specs.List.{filter_map, list_any}
use Rattle.std.proofs.lemmas.Bool.Decides.{nat_tests}
use Rattle.std.proofs.Math.Seq.{take-append_seam}
use Rattle.std.proofs.lemmas.List.{take_all}
use Rattle.std.proofs.lemmas.List.Elements.{filter_map-append}
use Rattle.std.proofs.lemmas.List.Folds.{list_any-append}
use Rattle.index_core.specs.Histories.{HistoryEvent, accept, freeze, begin, built}
use Rattle.index_core.specs.Histories.{live_docs_updated, merge_begin, merge_end, merge_drop}
use Rattle.index_core.specs.Histories.{view_end, Record, Merge, is_among, merges_from}
use Rattle.index_core.specs.Histories.{drawn_generation, built_generation, ended_merge, replaced}
use Rattle.index_core.specs.Histories as events
use Rattle.index_core.specs.Records.{with_event, accepted, frozen, drawn, current, begun_merges}
use Rattle.index_core.specs.Records.{next_generation}
use Rattle.index_core.specs.Generations.{applied_by, applied, is_built}
use Rattle.index_core.specs.EndedMerges.{BeginsNextMerge}
use Rattle.index_core.specs.HeldGenerations.{RisesFrom}
use Rattle.index_core.specs.LegalHistories.{IsLegal, MeetsLine, first_events, merged_documents}
use Rattle.index_core.specs.LegalHistories.{merged_generation}
use Rattle.index_core.proofs.AppliedLemmas.{applied_stay, applied_last}
use Rattle.index_core.proofs.EventLemmas.{frozen_after}
use Rattle.index_core.proofs.HeldEventLemmas.{among_any}
use Rattle.index_core.proofs.HistoryLemmas.{frozen-skip, frozen-more}
use Rattle.index_core.proofs.KnownLemmas.{take_next}
use Rattle.index_core.proofs.KnownMergeLemmas.{known}
use Rattle.index_core.proofs.ListLemmas.{in_all, same_number}
use Rattle.index_core.proofs.RisingLemmas.{among-filter}
use Rattle.index_core.proofs.SoundLemmas.{IsSound}
use Rattle.index_core.proofs.SoundRecordLemmas.{first_sound, after_first}

-- ---- tests

front : (a b : Bool) → a ≡ true → (a || b) ≡ true
front a b is = ap (λ (c : Bool). c || b) is

behind : (a b : Bool) → b ≡ true → (a || b) ≡ true
behind true b is = refl
behind false b is = is

any_filter : {X : Type 0} (t p : X → Bool) (xs : List X)
    → list_any t (filter p xs) ≡ list_any (λ x. p x && t x) xs
any_filter t p [] = refl
any_filter t p (x ∷ xs) = by_test (p x) (any_filter t p xs)
  where
    by_test : (b : Bool) → list_any t (filter p xs) ≡ list_any (λ y. p y && t y) xs
        → list_any t (cond b (x ∷ filter p xs) (filter p xs))
        ≡ ((b && t x) || list_any (λ y. p y && t y) xs)
    by_test true later = ap (λ (c : Bool). t x || c) later
    by_test false later = later

-- more items, of which more pass
any_more : {X : Type 0} (f g : X → Bool) → ((x : X) → f x ≡ true → g x ≡ true) → (xs ys : List X)
    → list_any f xs ≡ true → list_any g (xs ++ ys) ≡ true
any_more f g more [] ys some = absurd (let no : false ≡ true = some in cc)
any_more f g more (x ∷ xs) ys some = by_test (f x) refl some (λ h. any_more f g more xs ys h)
  where
    by_test : (b : Bool) → f x ≡ b → (b || list_any f xs) ≡ true
        → (list_any f xs ≡ true → list_any g (xs ++ ys) ≡ true)
        → (g x || list_any g (xs ++ ys)) ≡ true
    by_test true is some' again = front (g x) (list_any g (xs ++ ys)) (more x is)
    by_test false is some' again = behind (g x) (list_any g (xs ++ ys)) (again some')

among_more : (n : ℕ) (xs ys : List ℕ) → is_among n xs ≡ true → is_among n (xs ++ ys) ≡ true
among_more n xs ys there =
    list_any-append (nat_eq n) xs ys ∙ front (is_among n xs) (is_among n ys) there

-- what events give, among what they and later ones give
given_more : (f : HistoryEvent → Option ℕ) (g : ℕ) (first more whole : List HistoryEvent)
    → whole ≡ first ++ more → is_among g (filter_map f first) ≡ true
    → is_among g (filter_map f whole) ≡ true
given_more f g first more whole is there =
    ap (λ (h : List HistoryEvent). is_among g (filter_map f h)) is
    ∙ ap (is_among g) (filter_map-append f first more)
    ∙ among_more g (filter_map f first) (filter_map f more) there

-- ---- drawn, built, replaced

pub drawn_grows : (r s : Record) (more : List HistoryEvent) (g : ℕ)
    → s.history ≡ r.history ++ more → is_among g (drawn r) ≡ true → is_among g (drawn s) ≡ true
drawn_grows r s more g is there = given_more drawn_generation g r.history more s.history is there

pub built_grows : (r s : Record) (more : List HistoryEvent) (g : ℕ)
    → s.history ≡ r.history ++ more → is_built r g ≡ true → is_built s g ≡ true
built_grows r s more g is there = given_more built_generation g r.history more s.history is there

merges_from-append : (n : ℕ) (h more : List HistoryEvent)
    → merges_from n (h ++ more) ≡ merges_from n h ++ merges_from (frozen_after n h) more
merges_from-append n [] more = refl
merges_from-append n (accept a b ∷ h) more = merges_from-append n h more
merges_from-append n (freeze a b f u ∷ h) more = merges_from-append u h more
merges_from-append n (begin a b u gs ∷ h) more = merges_from-append n h more
merges_from-append n (built a b ∷ h) more = merges_from-append n h more
merges_from-append n (live_docs_updated a b c ∷ h) more = merges_from-append n h more
merges_from-append n (merge_begin a b gs ∷ h) more =
    ap (λ (ms : List Merge).
    record { caller = a; merge = b; upto = n; generations = gs } ∷ ms)
    (merges_from-append n h more)
merges_from-append n (merge_end a b i gone ∷ h) more = merges_from-append n h more
merges_from-append n (merge_drop a b ∷ h) more = merges_from-append n h more
merges_from-append n (view_end a b gone ∷ h) more = merges_from-append n h more

module _ (r s : Record) (more : List HistoryEvent) (g : ℕ)
    (is : s.history ≡ r.history ++ more) where
  abbrev held_by : Merge → Bool
  held_by m = is_among g m.generations

  abbrev ended_in : List HistoryEvent → Merge → Bool
  ended_in h m = is_among m.merge (filter_map ended_merge h)

  replaced_by : (h : List HistoryEvent)
      → is_among g (replaced h)
      ≡ list_any (λ m. ended_in h m && held_by m) (events.begun_merges h)
  replaced_by h =
      among_any g (filter (ended_in h) (events.begun_merges h))
      ∙ any_filter held_by (ended_in h) (events.begun_merges h)

  still_ended : (m : Merge) → (ended_in r.history m && held_by m) ≡ true
      → (ended_in s.history m && held_by m) ≡ true
  still_ended m both = by_test (ended_in r.history m) refl both
    where
      by_test : (b : Bool) → ended_in r.history m ≡ b → (b && held_by m) ≡ true
          → (ended_in s.history m && held_by m) ≡ true
      by_test true ended held =
          ap (λ (c : Bool). c && held_by m)
          (given_more ended_merge m.merge r.history more s.history is ended) ∙ held
      by_test false ended held = absurd (let wrong : false ≡ true = held in cc)

  -- what was replaced is replaced still
  replaced_grows : is_among g (replaced r.history) ≡ true → is_among g (replaced s.history) ≡ true
  replaced_grows there =
      replaced_by s.history
      ∙ ap (λ (ms : List Merge). list_any (λ m. ended_in s.history m && held_by m) ms)
      (ap events.begun_merges is ∙ merges_from-append 0 r.history more)
      ∙ any_more (λ (m : Merge). ended_in r.history m && held_by m)
      (λ m. ended_in s.history m && held_by m) still_ended (begun_merges r)
      (merges_from (frozen_after 0 r.history) more) (sym (replaced_by r.history) ∙ there)

  -- a drawn generation that isn't current never is
  pub never_current : is_among g (drawn r) ≡ true → is_among g (current r) ≡ false
      → is_among g (current s) ≡ false
  never_current there out =
      among-filter (λ n. not (is_among n (replaced s.history))) g (drawn s)
      ∙ ap (λ (b : Bool). is_among g (drawn s) && not b)
      (replaced_grows (gone (is_among g (drawn r)) (is_among g (replaced r.history)) there
      (sym (among-filter (λ n. not (is_among n (replaced r.history))) g (drawn r)) ∙ out)))
      ∙ none (is_among g (drawn s))
    where
      gone : (a b : Bool) → a ≡ true → (a && not b) ≡ false → b ≡ true
      gone true true p q = refl
      gone true false p q = absurd (let no : true ≡ false = q in cc)
      gone false b p q = absurd (let no : false ≡ true = p in cc)

      none : (b : Bool) → (b && false) ≡ false
      none true = refl
      none false = refl

-- ---- one legal event more

-- what is drawn next wasn't drawn
other_generation : (r : Record) (g x : ℕ) → IsSound r → is_among g (drawn r) ≡ true
    → x ≡ next_generation r → nat_eq x g ≡ false
other_generation r g x sound there is =
    let less : g < next_generation r =
    in_all (λ n. n < next_generation r) g (drawn r) there sound.plain.drawn_before in
    grind (arith, nat_tests, less, is)

module _ (r : Record) (e : HistoryEvent) (g : ℕ) (sound : IsSound r)
    (next : BeginsNextMerge r e) where
  unapplied : applied_by (with_event r e) g e ≡ None → applied r g ≤ applied (with_event r e) g
  unapplied nothing =
      let same = applied_stay r e (known r sound.plain.merges) next g nothing in
      omega (arith, same)

  applied_to : (n : ℕ) → applied_by (with_event r e) g e ≡ Some n → applied r g ≤ n
      → applied r g ≤ applied (with_event r e) g
  applied_to n is less =
      let last = applied_last r e (known r sound.plain.merges) next g n is in
      omega (arith, last, less)

-- the generation that a merge brings is the next
brought_is : (r : Record) (m : Merge) (i : ℕ) → Some i ≡ merged_generation r m
    → i ≡ next_generation r
brought_is r m i is = by_test (nat_eq (length (merged_documents r m)) 0) is
  where
    by_test : (b : Bool) → Some i ≡ cond b None (Some (next_generation r))
        → i ≡ next_generation r
    by_test true wrong = absurd (cc)
    by_test false same = cc

applied_more : (r : Record) (e : HistoryEvent) (g : ℕ) → IsSound r → MeetsLine r e
    → is_among g (drawn r) ≡ true → applied r g ≤ applied (with_event r e) g
applied_more r (accept a b) g sound line there = unapplied r (accept a b) g sound tt refl
applied_more r (freeze a x f u) g sound line there =
    let other = other_generation r g x sound there line.0 in
    unapplied r (freeze a x f u) g sound tt (rw other refl)
applied_more r (begin a b u gs) g sound line there =
    unapplied r (begin a b u gs) g sound tt refl
applied_more r (built a b) g sound line there = unapplied r (built a b) g sound tt refl
applied_more r (live_docs_updated a x u) g sound line there = by_test (nat_eq x g) refl
  where
    by_test : (b : Bool) → nat_eq x g ≡ b
        → applied r g ≤ applied (with_event r (live_docs_updated a x u)) g
    by_test true is =
        let same = same_number x g is in
        let less : applied r g < u = subst (λ (n : ℕ). applied r n < u) same line.2 in
        applied_to r (live_docs_updated a x u) g sound tt u (rw is refl) (omega (arith, less))
    by_test false is = unapplied r (live_docs_updated a x u) g sound tt (rw is refl)
applied_more r (merge_begin a b gs) g sound line there =
    unapplied r (merge_begin a b gs) g sound line.0 refl
applied_more r (merge_end a b None gone) g sound line there =
    unapplied r (merge_end a b None gone) g sound tt refl
applied_more r (merge_end a b (Some i) gone) g sound line there =
    let other = other_generation r g i sound there (brought_is r line.0 i line.2) in
    unapplied r (merge_end a b (Some i) gone) g sound tt (rw other refl)
applied_more r (merge_drop a b) g sound line there =
    unapplied r (merge_drop a b) g sound tt refl
applied_more r (view_end a b gone) g sound line there =
    unapplied r (view_end a b gone) g sound tt refl

frozen_more : (r : Record) (e : HistoryEvent) → MeetsLine r e → frozen r ≤ frozen (with_event r e)
frozen_more r (accept a b) line =
    let same = frozen-skip r.history (accept a b) refl in omega (arith, same)
frozen_more r (freeze a x f u) line =
    let last = frozen-more r.history a x f u in
    let is : u ≡ accepted r = line.2 in
    let less : frozen r < accepted r = line.3 in omega (arith, last, is, less)
frozen_more r (begin a b u gs) line =
    let same = frozen-skip r.history (begin a b u gs) refl in omega (arith, same)
frozen_more r (built a b) line =
    let same = frozen-skip r.history (built a b) refl in omega (arith, same)
frozen_more r (live_docs_updated a b c) line =
    let same = frozen-skip r.history (live_docs_updated a b c) refl in omega (arith, same)
frozen_more r (merge_begin a b gs) line =
    let same = frozen-skip r.history (merge_begin a b gs) refl in omega (arith, same)
frozen_more r (merge_end a b i gone) line =
    let same = frozen-skip r.history (merge_end a b i gone) refl in omega (arith, same)
frozen_more r (merge_drop a b) line =
    let same = frozen-skip r.history (merge_drop a b) refl in omega (arith, same)
frozen_more r (view_end a b gone) line =
    let same = frozen-skip r.history (view_end a b gone) refl in omega (arith, same)

-- ---- all later events

-- after the first n events a generation knows no fewer deletes than after the first k, and no
-- less is frozen
record Grows (s : Record) (k n g : ℕ) : Type 0 where
  still : is_among g (drawn (first_events k s)) ≡ true
      → is_among g (drawn (first_events n s)) ≡ true
  knows : is_among g (drawn (first_events k s)) ≡ true
      → applied (first_events k s) g ≤ applied (first_events n s) g
  has_frozen : frozen (first_events k s) ≤ frozen (first_events n s)

grows_from : (s : Record) → IsLegal s → (k g j n : ℕ) → n ≡ k + j → n ≤ length s.history
    → Grows s k n g
grows_from s legal k g zero n is within =
    let same : k ≡ n = omega (arith, is) in
    subst (λ (x : ℕ). Grows s k x g) same (record {
      still = λ there. there;
      knows = λ there. omega arith;
      has_frozen = omega arith;
    })
grows_from s legal k g (suc j) n is within =
    let less : k + j < length s.history = omega (arith, is, within) in
    let r = first_events (k + j) s in
    let before = grows_from s legal k g j (k + j) refl (omega (arith, less)) in
    let sound = first_sound s legal (k + j) (omega (arith, less)) in
    let event = take_next (k + j) s.history less in
    let line = (legal.events (k + j) event.0 event.1).line in
    let step = after_first s legal (k + j) less sound in
    let frozen-step : frozen r ≤ frozen (first_events (suc (k + j)) s) =
    subst (λ (h : List HistoryEvent). frozen r ≤ events.frozen h) (sym event.2)
    (frozen_more r event.0 line) in
    let applied-step : is_among g (drawn r) ≡ true
    → applied r g ≤ applied (first_events (suc (k + j)) s) g = λ there.
    subst (λ (h : List HistoryEvent).
    applied r g ≤ applied (record { history = h; journal = [] }) g) (sym event.2)
    (applied_more r event.0 g sound line there) in
    let same : suc (k + j) ≡ n = omega (arith, is) in
    subst (λ (x : ℕ). Grows s k x g) same (record {
      still = λ there. step.drawn_still g (before.still there);
      knows = λ there. let first = before.knows there in
          let second = applied-step (before.still there) in omega (arith, first, second);
      has_frozen = let first = before.has_frozen in omega (arith, first, frozen-step);
    })

module _ (r s : Record) (more : List HistoryEvent) (legal : IsLegal s)
    (is : s.history ≡ r.history ++ more) where
  first_is : take (length r.history) s.history ≡ r.history
  first_is =
      ap (λ (h : List HistoryEvent). take (length r.history) h) is
      ∙ take-append_seam r.history more

  all_are : take (length s.history) s.history ≡ s.history
  all_are = take_all (length s.history) s.history (omega arith)

  grows : (g : ℕ) → Grows s (length r.history) (length s.history) g
  grows g =
      let long = ap (λ (h : List HistoryEvent). length h) is in
      let both = length-append r.history more in
      grows_from s legal (length r.history) g (length more) (length s.history)
      (omega (arith, long, both)) (omega arith)

  pub current_rise : RisesFrom 1 (current r)
  current_rise =
      let long = ap (λ (h : List HistoryEvent). length h) is in
      let both = length-append r.history more in
      let sound = first_sound s legal (length r.history) (omega (arith, long, both)) in
      subst (λ (h : List HistoryEvent). RisesFrom 1 (events.current h)) first_is
      (subst (λ (gs : List ℕ). RisesFrom 1 gs) sound.are.generations sound.are.rising)

  pub frozen_grows : frozen r ≤ frozen s
  frozen_grows =
      subst (λ (h : List HistoryEvent). events.frozen h ≤ frozen s) first_is
      (subst (λ (h : List HistoryEvent).
      events.frozen (take (length r.history) s.history) ≤ events.frozen h) all_are
      (grows 0).has_frozen)

  pub applied_grows : (g : ℕ) → is_among g (drawn r) ≡ true → applied r g ≤ applied s g
  applied_grows g there =
      let there' : is_among g (events.drawn (take (length r.history) s.history)) ≡ true =
      ap (λ (h : List HistoryEvent). is_among g (events.drawn h)) first_is ∙ there in
      subst (λ (h : List HistoryEvent).
      applied (record { history = h; journal = [] }) g ≤ applied s g) first_is
      (subst (λ (h : List HistoryEvent).
      applied (first_events (length r.history) s) g
      ≤ applied (record { history = h; journal = [] }) g) all_are
      ((grows g).knows there'))
