-- A drawn generation that nothing references is never referenced again.
use Rattle.std.proofs.Common.{◌≡◌, ◌≤◌, ◌<◌, ◌+◌, ◌-◌, ℕ, zero, suc, Bool, true, false, cond, not}
use Rattle.std.proofs.Common.{nat_eq, ◌&&◌, ◌||◌, List, [], ◌∷◌, ◌++◌, length, refl}
use Rattle.std.proofs.Common.{sym, ap, ◌∙◌, subst, arith}
use Rattle.std.specs.Prelude.{filter}
use Rattle.std.specs.List.{AllByRecursion, filter_map, list_any}
use Rattle.std.proofs.lemmas.List.Elements.{filter_map-append}
use Rattle.std.proofs.lemmas.List.Folds.{list_any-append}
use Rattle.index_core.specs.Histories.{HistoryEvent, accept, freeze, begin, built}
use Rattle.index_core.specs.Histories.{live_docs_updated, merge_begin, merge_end, merge_drop}
use Rattle.index_core.specs.Histories.{view_end, Record, View, Merge, is_among, begun_views}
use Rattle.index_core.specs.Histories.{begun_view, ended_view, ended_merge, closed_merge, replaced}
use Rattle.index_core.specs.Records.{with_event, drawn, current, open_views, open_merges}
use Rattle.index_core.specs.Records.{begun_merges, is_referenced}
use Rattle.index_core.specs.LegalHistories.{IsLegal, MeetsLine, first_events}
use Rattle.index_core.specs.HeldGenerations.{RisesFrom}
use Rattle.index_core.specs.LegalLaws.{ReleasedStayReleased}
use Rattle.index_core.proofs.EventLemmas.{begun_by, frozen_after, merges-more}
use Rattle.index_core.proofs.HeldEventLemmas.{among_any}
use Rattle.index_core.proofs.KnownLemmas.{take_next}
use Rattle.index_core.proofs.LegalLemmas.{first_all}
use Rattle.index_core.proofs.ListLemmas.{both, not_true}
use Rattle.index_core.proofs.PlannedLemmas.{planned_is}
use Rattle.index_core.proofs.RisingLemmas.{among-filter}
use Rattle.index_core.proofs.SoundLemmas.{IsSound}
use Rattle.index_core.proofs.SoundRecordLemmas.{first_sound, after_first}

-- ---- tests

front : (a b : Bool) → a ≡ true → (a || b) ≡ true
front true b is = refl
front false b is = let no : false ≡ true = is in absurd cc

neither : (a b : Bool) → (a || b) ≡ false → (a ≡ false) × (b ≡ false)
neither true b is = let no : true ≡ false = is in absurd cc
neither false b is = (refl, is)

-- ---- lists

-- fewer of more items: none passes the other test
none_more : {X : Type 0} (t p q : X → Bool) → ((x : X) → q x ≡ true → p x ≡ true)
    → (xs ys : List X) → list_any t (filter p xs) ≡ false → list_any t ys ≡ false
    → list_any t (filter q (xs ++ ys)) ≡ false
none_more t p q fewer [] [] none new = refl
none_more t p q fewer [] (y ∷ ys) none new =
    let parts = neither (t y) (list_any t ys) new in
    by_test (q y) (none_more t p q fewer [] ys none parts.1) parts.0
  where
    by_test : (b : Bool) → list_any t (filter q ys) ≡ false → t y ≡ false
        → list_any t (cond b (y ∷ filter q ys) (filter q ys)) ≡ false
    by_test true later here = rw here later
    by_test false later here = later
none_more t p q fewer (x ∷ xs) ys none new =
    by_tests (p x) (q x) refl refl none (λ h. none_more t p q fewer xs ys h new)
  where
    by_tests : (a b : Bool) → p x ≡ a → q x ≡ b
        → list_any t (cond a (x ∷ filter p xs) (filter p xs)) ≡ false
        → (list_any t (filter p xs) ≡ false → list_any t (filter q (xs ++ ys)) ≡ false)
        → list_any t (cond b (x ∷ filter q (xs ++ ys)) (filter q (xs ++ ys))) ≡ false
    by_tests true true pa qb none' again =
        let parts = neither (t x) (list_any t (filter p xs)) none' in
        rw parts.0 (again parts.1)
    by_tests true false pa qb none' again =
        let parts = neither (t x) (list_any t (filter p xs)) none' in again parts.1
    by_tests false true pa qb none' again =
        let no : true ≡ false = sym (fewer x qb) ∙ pa in absurd cc
    by_tests false false pa qb none' again = again none'

-- more of more items: one that passes passes still
some_more : {X : Type 0} (t p q : X → Bool) → ((x : X) → p x ≡ true → q x ≡ true)
    → (xs ys : List X) → list_any t (filter p xs) ≡ true
    → list_any t (filter q (xs ++ ys)) ≡ true
some_more t p q more [] ys some = let no : false ≡ true = some in absurd cc
some_more t p q more (x ∷ xs) ys some =
    by_tests (p x) (q x) refl refl (t x) some (λ h. some_more t p q more xs ys h)
  where
    later : (b : Bool) → list_any t (filter q (xs ++ ys)) ≡ true
        → list_any t (cond b (x ∷ filter q (xs ++ ys)) (filter q (xs ++ ys))) ≡ true
    later true is = one (t x) is
      where
        one : (c : Bool) → list_any t (filter q (xs ++ ys)) ≡ true
            → (c || list_any t (filter q (xs ++ ys))) ≡ true
        one true h = refl
        one false h = h
    later false is = is

    by_tests : (a b : Bool) → p x ≡ a → q x ≡ b → (c : Bool)
        → list_any t (cond a (x ∷ filter p xs) (filter p xs)) ≡ true
        → (list_any t (filter p xs) ≡ true → list_any t (filter q (xs ++ ys)) ≡ true)
        → list_any t (cond b (x ∷ filter q (xs ++ ys)) (filter q (xs ++ ys))) ≡ true
    by_tests true true pa qb c some' again =
        by_first (t x) some' again
      where
        by_first : (d : Bool) → (d || list_any t (filter p xs)) ≡ true
            → (list_any t (filter p xs) ≡ true → list_any t (filter q (xs ++ ys)) ≡ true)
            → (d || list_any t (filter q (xs ++ ys))) ≡ true
        by_first true h again' = refl
        by_first false h again' = again' h
    by_tests true false pa qb c some' again =
        let no : true ≡ false = sym (more x pa) ∙ qb in absurd cc
    by_tests false b pa qb c some' again = later b (again some')

among_more : (n : ℕ) (xs ys : List ℕ) → is_among n xs ≡ true → is_among n (xs ++ ys) ≡ true
among_more n xs ys there =
    list_any-append (nat_eq n) xs ys ∙ front (is_among n xs) (is_among n ys) there

-- what isn't among more isn't among fewer
not_among_less : (n : ℕ) (xs ys : List ℕ) → not (is_among n (xs ++ ys)) ≡ true
    → not (is_among n xs) ≡ true
not_among_less n xs ys out = by_test (is_among n xs) refl
  where
    by_test : (b : Bool) → is_among n xs ≡ b → not b ≡ true
    by_test false is = refl
    by_test true is =
        let no : false ≡ true =
        ap not (sym (among_more n xs ys is)) ∙ out in absurd cc

-- ---- one event more

module _ (r : Record) (e : HistoryEvent) (g : ℕ) where
  abbrev s : Record
  s = with_event r e

  -- what was replaced is replaced still
  replaced_still : is_among g (replaced r.history) ≡ true
      → is_among g (replaced s.history) ≡ true
  replaced_still is =
      let ended = filter_map ended_merge r.history in
      let later = filter_map ended_merge s.history in
      let both_ended : later ≡ ended ++ filter_map ended_merge (e ∷ []) =
      filter_map-append ended_merge r.history (e ∷ []) in
      let begun : begun_merges s ≡ begun_merges r ++ begun_by (frozen_after 0 r.history) e =
      merges-more 0 r.history e in
      among_any g (filter (λ m. is_among m.merge later) (begun_merges s))
      ∙ ap (λ (ms : List Merge). list_any (λ m. is_among g m.generations)
      (filter (λ m. is_among m.merge later) ms)) begun
      ∙ some_more (λ (m : Merge). is_among g m.generations) (λ m. is_among m.merge ended)
      (λ m. is_among m.merge later)
      (λ m there. ap (is_among m.merge) both_ended
      ∙ among_more m.merge ended (filter_map ended_merge (e ∷ [])) there)
      (begun_merges r) (begun_by (frozen_after 0 r.history) e)
      (sym (among_any g (filter (λ m. is_among m.merge ended) (begun_merges r))) ∙ is)

  -- a drawn generation that isn't current never is
  never_current : is_among g (drawn r) ≡ true → is_among g (current r) ≡ false
      → is_among g (current s) ≡ false
  never_current there out =
      among-filter (λ n. not (is_among n (replaced s.history))) g (drawn s)
      ∙ ap (λ (b : Bool). is_among g (drawn s) && not b)
      (replaced_still (gone (is_among g (drawn r)) (is_among g (replaced r.history)) there
      (sym (among-filter (λ n. not (is_among n (replaced r.history))) g (drawn r)) ∙ out)))
      ∙ no_and (is_among g (drawn s))
    where
      gone : (a b : Bool) → a ≡ true → (a && not b) ≡ false → b ≡ true
      gone true true p q = refl
      gone true false p q = let no : true ≡ false = q in absurd cc
      gone false b p q = let no : false ≡ true = p in absurd cc

      no_and : (b : Bool) → (b && false) ≡ false
      no_and true = refl
      no_and false = refl

  views_none : list_any (λ v. is_among g v.generations) (open_views r) ≡ false
      → list_any (λ v. is_among g v.generations) (filter_map begun_view (e ∷ [])) ≡ false
      → list_any (λ v. is_among g v.generations) (open_views s) ≡ false
  views_none none new =
      let ended = filter_map ended_view r.history in
      let later = filter_map ended_view s.history in
      let both_ended : later ≡ ended ++ filter_map ended_view (e ∷ []) =
      filter_map-append ended_view r.history (e ∷ []) in
      ap (λ (vs : List View). list_any (λ v. is_among g v.generations)
      (filter (λ v. not (is_among v.view later)) vs))
      (filter_map-append begun_view r.history (e ∷ []))
      ∙ none_more (λ (v : View). is_among g v.generations) (λ v. not (is_among v.view ended))
      (λ v. not (is_among v.view later))
      (λ v out. not_among_less v.view ended (filter_map ended_view (e ∷ []))
      (ap (λ (ns : List ℕ). not (is_among v.view ns)) (sym both_ended) ∙ out))
      (begun_views r.history) (filter_map begun_view (e ∷ [])) none new

  merges_none : list_any (λ m. is_among g m.generations) (open_merges r) ≡ false
      → list_any (λ m. is_among g m.generations) (begun_by (frozen_after 0 r.history) e) ≡ false
      → list_any (λ m. is_among g m.generations) (open_merges s) ≡ false
  merges_none none new =
      let closed = filter_map closed_merge r.history in
      let later = filter_map closed_merge s.history in
      let both_closed : later ≡ closed ++ filter_map closed_merge (e ∷ []) =
      filter_map-append closed_merge r.history (e ∷ []) in
      ap (λ (ms : List Merge). list_any (λ m. is_among g m.generations)
      (filter (λ m. not (is_among m.merge later)) ms)) (merges-more 0 r.history e)
      ∙ none_more (λ (m : Merge). is_among g m.generations)
      (λ m. not (is_among m.merge closed)) (λ m. not (is_among m.merge later))
      (λ m out. not_among_less m.merge closed (filter_map closed_merge (e ∷ []))
      (ap (λ (ns : List ℕ). not (is_among m.merge ns)) (sym both_closed) ∙ out))
      (begun_merges r) (begun_by (frozen_after 0 r.history) e) none new

  pub unheld_next : is_among g (drawn r) ≡ true
      → list_any (λ v. is_among g v.generations) (filter_map begun_view (e ∷ [])) ≡ false
      → list_any (λ m. is_among g m.generations) (begun_by (frozen_after 0 r.history) e) ≡ false
      → is_referenced r g ≡ false → is_referenced s g ≡ false
  unheld_next there view merge out =
      let first = neither (is_among g (current r))
      (list_any (λ v. is_among g v.generations) (open_views r)
      || list_any (λ m. is_among g m.generations) (open_merges r)) out in
      let second = neither (list_any (λ v. is_among g v.generations) (open_views r))
      (list_any (λ m. is_among g m.generations) (open_merges r)) first.1 in
      ap (λ (b : Bool). b || (list_any (λ v. is_among g v.generations) (open_views s)
      || list_any (λ m. is_among g m.generations) (open_merges s)))
      (never_current there first.0)
      ∙ ap (λ (b : Bool). b || list_any (λ m. is_among g m.generations) (open_merges s))
      (views_none second.0 view)
      ∙ merges_none second.1 merge

-- ---- a legal event

outside : (b : Bool) → (b ≡ true → ⊥) → b ≡ false
outside true wrong = absurd (wrong refl)
outside false wrong = refl

legal_unheld : (r : Record) (e : HistoryEvent) (g : ℕ) → IsSound r → MeetsLine r e
    → is_among g (drawn r) ≡ true → is_referenced r g ≡ false
    → is_referenced (with_event r e) g ≡ false
legal_unheld r (accept a b) g sound line there out =
    unheld_next r (accept a b) g there refl refl out
legal_unheld r (freeze a b f u) g sound line there out =
    unheld_next r (freeze a b f u) g there refl refl out
legal_unheld r (begin a b u gs) g sound line there out =
    let first = neither (is_among g (current r))
    (list_any (λ v. is_among g v.generations) (open_views r)
    || list_any (λ m. is_among g m.generations) (open_merges r)) out in
    let none : is_among g gs ≡ false = ap (is_among g) line.3 ∙ first.0 in
    unheld_next r (begin a b u gs) g there (ap (λ (c : Bool). c || false) none) refl out
legal_unheld r (built a b) g sound line there out =
    unheld_next r (built a b) g there refl refl out
legal_unheld r (live_docs_updated a b c) g sound line there out =
    unheld_next r (live_docs_updated a b c) g there refl refl out
legal_unheld r (merge_begin a b gs) g sound line there out =
    let first = neither (is_among g (current r))
    (list_any (λ v. is_among g v.generations) (open_views r)
    || list_any (λ m. is_among g m.generations) (open_merges r)) out in
    let planned = planned_is r gs 1 (subst (λ (ns : List ℕ). RisesFrom 1 ns)
    sound.are.generations sound.are.rising) line.1 in
    let none : is_among g gs ≡ false = outside (is_among g gs) (λ is.
    let no : true ≡ false = sym (planned.in_use g is) ∙ first.0 in cc) in
    unheld_next r (merge_begin a b gs) g there refl (ap (λ (c : Bool). c || false) none) out
legal_unheld r (merge_end a b i gone) g sound line there out =
    unheld_next r (merge_end a b i gone) g there refl refl out
legal_unheld r (merge_drop a b) g sound line there out =
    unheld_next r (merge_drop a b) g there refl refl out
legal_unheld r (view_end a b gone) g sound line there out =
    unheld_next r (view_end a b gone) g there refl refl out

-- ---- all later events

unheld_from : (s : Record) → IsLegal s → (k g j n : ℕ) → n ≡ k + j → n ≤ length s.history
    → is_among g (drawn (first_events k s)) ≡ true → is_referenced (first_events k s) g ≡ false
    → (is_among g (drawn (first_events n s)) ≡ true)
    × (is_referenced (first_events n s) g ≡ false)
unheld_from s legal k g zero n is within there out =
    let same : k ≡ n = omega (arith, is) in
    subst (λ (x : ℕ). (is_among g (drawn (first_events x s)) ≡ true)
    × (is_referenced (first_events x s) g ≡ false)) same (there, out)
unheld_from s legal k g (suc j) n is within there out =
    let less : k + j < length s.history = omega (arith, is, within) in
    let r = first_events (k + j) s in
    let before = unheld_from s legal k g j (k + j) refl (omega (arith, less)) there out in
    let sound = first_sound s legal (k + j) (omega (arith, less)) in
    let event = take_next (k + j) s.history less in
    let line = (legal.events (k + j) event.0 event.1).line in
    let after = legal_unheld r event.0 g sound line before.0 before.1 in
    let drawn_still = (after_first s legal (k + j) less sound).drawn_still g before.0 in
    let same : suc (k + j) ≡ n = omega (arith, is) in
    subst (λ (x : ℕ). (is_among g (drawn (first_events x s)) ≡ true)
    × (is_referenced (first_events x s) g ≡ false)) same (
      drawn_still,
      subst (λ (h : List HistoryEvent). is_referenced (record { history = h; journal = [] }) g
          ≡ false) (sym event.2) after,
    )

-- what an event releases isn't referenced after it
none_referenced : (r : Record) (e : HistoryEvent) (gs : List ℕ)
    → AllByRecursion (λ g. is_referenced (with_event r e) g ≡ false)
    (filter (λ g. is_referenced r g && not (is_referenced (with_event r e) g)) gs)
none_referenced r e [] = tt
none_referenced r e (g ∷ gs) =
    by_test (is_referenced r g && not (is_referenced (with_event r e) g)) refl
    (none_referenced r e gs)
  where
    by_test : (b : Bool) → (is_referenced r g && not (is_referenced (with_event r e) g)) ≡ b
        → AllByRecursion (λ n. is_referenced (with_event r e) n ≡ false)
        (filter (λ n. is_referenced r n && not (is_referenced (with_event r e) n)) gs)
        → AllByRecursion (λ n. is_referenced (with_event r e) n ≡ false)
        (cond b (g ∷ filter (λ n. is_referenced r n && not (is_referenced (with_event r e) n)) gs)
        (filter (λ n. is_referenced r n && not (is_referenced (with_event r e) n)) gs))
    by_test true is later = (
      not_true (is_referenced (with_event r e) g)
          (both (is_referenced r g) (not (is_referenced (with_event r e) g)) is).1,
      later,
    )
    by_test false is later = later

pub stay_released : ReleasedStayReleased
stay_released = record {
  unheld = λ r e. none_referenced r e (drawn r);
  forever = λ r k g legal within there out.
      subst (λ (x : Record). is_referenced x g ≡ false) (first_all r legal.numbered)
      (unheld_from r legal k g (length r.history - k) (length r.history) (omega (arith, within))
      (omega arith) there out).1;
}
