-- How many segments an offer builds, by its own events.
use Rattle.std.proofs.Common.{◌≡◌, ◌+◌, inl, inr, ℕ, Bool, true, false, cond, nat_eq, List, [], ◌∷◌}
use Rattle.std.proofs.Common.{◌++◌, length, refl, ap, ◌∙◌, subst, arith, length-append}
use Rattle.std.specs.Prelude.{filter}
use Rattle.std.proofs.lemmas.Bool.Decides.{nat_tests}
use Rattle.std.proofs.lemmas.List.Elements.{filter-append}
use Rattle.turn_lock.specs.Handles.{own}
use Rattle.index_core.specs.Histories.{HistoryEvent, freeze, built, live_docs_updated, Record}
use Rattle.index_core.specs.Records.{with_event, accepted, frozen, buffered, current}
use Rattle.index_core.specs.Records.{next_generation}
use Rattle.index_core.specs.Calls.{after_freeze}
use Rattle.index_core.specs.CurrentPieces.{is_unbuilt, after_built, is_behind, after_lived}
use Rattle.index_shared.specs.Sections.{caller_of, HandleState, having, FindsRecord}
use Rattle.index_shared.specs.Offers.{refreshed, segments_due, Refreshed, Refreshes, is_building}
use Rattle.index_shared.specs.Offers.{OffersCountSegments}

-- how many segments a caller's events give
abbrev segments_by : ℕ → List HistoryEvent → ℕ
segments_by c events = length (filter is_building (own caller_of c events))

segments_by-append : (c : ℕ) (xs ys : List HistoryEvent)
    → segments_by c (xs ++ ys) ≡ segments_by c xs + segments_by c ys
segments_by-append c xs ys =
    ap (λ (es : List HistoryEvent). length (filter is_building es))
    (filter-append (λ e. nat_eq (caller_of e) c) xs ys)
    ∙ ap (λ (es : List HistoryEvent). length es)
    (filter-append is_building (own caller_of c xs) (own caller_of c ys))
    ∙ length-append (filter is_building (own caller_of c xs))
    (filter is_building (own caller_of c ys))

-- ---- one event

itself : (c : ℕ) → nat_eq c c ≡ true
itself c = grind (arith, nat_tests)

segments_freeze : (c : ℕ) (r : Record)
    → segments_by c (after_freeze c r).history ≡ segments_by c r.history
segments_freeze c r = by_test (nat_eq (buffered r) 0)
  where
    by_test : (b : Bool) → segments_by c (cond b r
        (with_event r (freeze c (next_generation r) (frozen r + 1) (accepted r)))).history
        ≡ segments_by c r.history
    by_test true = refl
    by_test false =
        let e = freeze c (next_generation r) (frozen r + 1) (accepted r) in
        let more = segments_by-append c r.history (e ∷ []) in
        let none : segments_by c (e ∷ []) ≡ 0 = rw (itself c) refl in
        omega (arith, more, none)

segments_built : (c g : ℕ) (r : Record)
    → segments_by c (after_built c g r).history ≡ segments_by c r.history + segments_due r g
segments_built c g r = by_test (is_unbuilt r g)
  where
    by_test : (b : Bool) → segments_by c (cond b (with_event r (built c g)) r).history
        ≡ segments_by c r.history + cond b 1 0
    by_test true =
        let more = segments_by-append c r.history (built c g ∷ []) in
        let one : segments_by c (built c g ∷ []) ≡ 1 = rw (itself c) refl in
        omega (arith, more, one)
    by_test false = omega arith

segments_lived : (c g upto : ℕ) (r : Record)
    → segments_by c (after_lived c g upto r).history ≡ segments_by c r.history
segments_lived c g upto r = by_test (is_behind r g upto)
  where
    by_test : (b : Bool)
        → segments_by c (cond b (with_event r (live_docs_updated c g upto)) r).history
        ≡ segments_by c r.history
    by_test true =
        let more = segments_by-append c r.history (live_docs_updated c g upto ∷ []) in
        let none : segments_by c (live_docs_updated c g upto ∷ []) ≡ 0 = rw (itself c) refl in
        omega (arith, more, none)
    by_test false = refl

-- ---- all sections

segments_found : (h : HandleState) (found : Record) → FindsRecord h found
    → segments_by h.number found.history ≡ segments_by h.number h.history
segments_found h found finds =
    let c = h.number in
    let whole = ap (segments_by c) finds.later.history_is
    ∙ segments_by-append c h.history finds.later.events in
    let none = ap (λ (es : List HistoryEvent). length (filter is_building es)) finds.others in
    omega (arith, whole, none)

segments_refreshed : (h : HandleState) (upto g n : ℕ) (next : HandleState)
    (one : Refreshed h upto g n next)
    → segments_by h.number (refreshed h.number upto one.found g).history
    ≡ segments_by h.number h.history + n
segments_refreshed h upto g n next one =
    let c = h.number in
    let found : segments_by c one.found.history ≡ segments_by c h.history =
    elim one.finds [
      | inl finds ↦ segments_found h one.found finds
      | inr same ↦ ap (λ (r : Record). segments_by c r.history) same.0
    ] in
    let lived = segments_lived c g upto (after_built c g one.found) in
    let given = segments_built c g one.found in
    let counted = one.counted in omega (arith, found, lived, given, counted)

segments_refreshes : (h : HandleState) (upto : ℕ) (gs : List ℕ) (count : ℕ) (h' : HandleState)
    → Refreshes h upto gs count h'
    → segments_by h.number h'.history ≡ segments_by h.number h.history + count
segments_refreshes h upto [] count h' are =
    let same = ap (λ (x : HandleState). segments_by h.number x.history) are.1 in
    let none = are.0 in omega (arith, same, none)
segments_refreshes h upto (g ∷ gs) count h' are =
    let one = are.3 in
    let r = refreshed h.number upto one.found g in
    let sections : Refreshes (having h r) upto gs are.2 h' =
    subst (λ (x : HandleState). Refreshes x upto gs are.2 h') one.after are.5 in
    let here = segments_refreshed h upto g are.1 are.0 one in
    let later = segments_refreshes (having h r) upto gs are.2 h' sections in
    let sum = are.4 in omega (arith, here, later, sum)

pub count_segments : OffersCountSegments
count_segments h h' count more offered history =
    let c = h.number in
    let first = after_freeze c offered.found in
    let found = segments_found h offered.found offered.finds in
    let froze = segments_freeze c offered.found in
    let later = segments_refreshes (having h first) (frozen first) (current first) count h'
    offered.sections in
    let whole = ap (segments_by c) history ∙ segments_by-append c h.history more in
    omega (arith, found, froze, later, whole)
