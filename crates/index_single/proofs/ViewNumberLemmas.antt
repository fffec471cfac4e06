-- In a legal record each view that ended was begun, so a view that begins is open, and the newest.
use Rattle.std.proofs.Common.{◌≡◌, ◌≤◌, ◌<◌, ◌+◌, ℕ, Bool, true, false, cond, not, nat_eq, List, []}
use Rattle.std.proofs.Common.{◌∷◌, ◌++◌, length, None, refl, sym, ap, ◌∙◌, subst, arith}
use Rattle.std.proofs.Common.{length-append}
use Rattle.std.specs.Prelude.{⊤}
use Rattle.std.specs.List.{AllByRecursion, filter_map}
use Rattle.std.proofs.lemmas.List.Elements.{All-from_recursion, filter_map-append}
use Rattle.index_core.specs.Histories.{HistoryEvent, accept, freeze, begin, built}
use Rattle.index_core.specs.Histories.{live_docs_updated, merge_begin, merge_end, merge_drop}
use Rattle.index_core.specs.Histories.{view_end, Record, View, is_among, begun_view, ended_view}
use Rattle.index_core.specs.Histories.{begun_views}
use Rattle.index_core.specs.Records.{with_event, accepted, frozen, buffered, next_generation}
use Rattle.index_core.specs.Records.{open_views}
use Rattle.index_core.specs.LegalHistories.{IsLegal}
use Rattle.index_core.specs.Calls.{after_freeze, after_begin, begun_by}
use Rattle.index_core.specs.OpenViews.{without}
use Rattle.index_core.proofs.HistoryLemmas.{skips}
use Rattle.index_core.proofs.KnownMergeLemmas.{of_each}
use Rattle.index_core.proofs.ListLemmas.{all_more, all_weaker, all_filter}
use Rattle.index_core.proofs.ViewLemmas.{is_among-over, open_views-begin, open_views-after_freeze}
use Rattle.index_shared.proofs.ListLemmas.{without_newest}
use Rattle.index_shared.proofs.WalkLemmas.{AtEvent, along}

-- ---- numbers

-- begun views have the numbers so far, and those that ended were begun
record AreBegun (h : List HistoryEvent) : Type 0 where
  below : AllByRecursion (λ v. v.view ≤ length (begun_views h)) (begun_views h)
  ended : AllByRecursion (λ n. n ≤ length (begun_views h)) (filter_map ended_view h)

-- an event that neither begins nor ends a view
neither : (xs : List HistoryEvent) (e : HistoryEvent) → begun_view e ≡ None → ended_view e ≡ None
    → AreBegun xs → AreBegun (xs ++ e ∷ [])
neither xs e begins ends are = record {
  below = rw (skips begun_view xs e begins) are.below;
  ended = rw (skips begun_view xs e begins, skips ended_view xs e ends) are.ended;
}

one_more : (xs : List HistoryEvent) (e : HistoryEvent) → AtEvent xs e → ⊤ → AreBegun xs
    → AreBegun (xs ++ e ∷ [])
one_more xs (accept a b) at there are = neither xs (accept a b) refl refl are
one_more xs (freeze a b f u) at there are = neither xs (freeze a b f u) refl refl are
one_more xs (begin a b u gs) at there are =
    let e = begin a b u gs in
    let v : View = record { caller = a; view = b; upto = u; generations = gs } in
    let more : begun_views (xs ++ e ∷ []) ≡ begun_views xs ++ v ∷ [] =
    filter_map-append begun_view xs (e ∷ []) in
    let longer : length (begun_views (xs ++ e ∷ [])) ≡ length (begun_views xs) + 1 =
    ap (λ (vs : List View). length vs) more ∙ length-append (begun_views xs) (v ∷ []) in
    let number : b ≡ length (begun_views xs) + 1 = at.line.0 in
    record {
      below = rw longer (subst (AllByRecursion (λ w. w.view ≤ length (begun_views xs) + 1))
          (sym more)
          (all_more (λ w. w.view ≤ length (begun_views xs) + 1) (begun_views xs) v
          (all_weaker (λ w. w.view ≤ length (begun_views xs))
          (λ w. w.view ≤ length (begun_views xs) + 1) (λ w less. omega (arith, less))
          (begun_views xs) are.below) (omega (arith, number))));
      ended = rw (longer, skips ended_view xs e refl)
          (all_weaker (λ n. n ≤ length (begun_views xs)) (λ n. n ≤ length (begun_views xs) + 1)
          (λ n less. omega (arith, less)) (filter_map ended_view xs) are.ended);
    }
one_more xs (built a b) at there are = neither xs (built a b) refl refl are
one_more xs (live_docs_updated a b c) at there are =
    neither xs (live_docs_updated a b c) refl refl are
one_more xs (merge_begin a b gs) at there are = neither xs (merge_begin a b gs) refl refl are
one_more xs (merge_end a b i gone) at there are = neither xs (merge_end a b i gone) refl refl are
one_more xs (merge_drop a b) at there are = neither xs (merge_drop a b) refl refl are
one_more xs (view_end a n gone) at there are =
    let e = view_end a n gone in
    let line = at.line in
    let less : line.0.view ≤ length (begun_views xs) =
    of_each (λ v. v.view ≤ length (begun_views xs)) line.0 _
    (all_filter (λ v. v.view ≤ length (begun_views xs))
    (λ v. not (is_among v.view (filter_map ended_view xs))) (begun_views xs) are.below)
    line.1.is_open in
    let number : line.0.view ≡ n = line.1.number in
    record {
      below = rw (skips begun_view xs e refl) are.below;
      ended = rw (skips begun_view xs e refl)
          (subst (AllByRecursion (λ k. k ≤ length (begun_views xs)))
          (sym (filter_map-append ended_view xs (e ∷ [])))
          (all_more (λ k. k ≤ length (begun_views xs)) (filter_map ended_view xs) n are.ended
          (omega (arith, less, number))));
    }

all_true : (h : List HistoryEvent) → AllByRecursion (λ _. ⊤) h
all_true [] = tt
all_true (e ∷ es) = (tt, all_true es)

are_begun : (r : Record) → IsLegal r → AreBegun r.history
are_begun r legal =
    along r legal AreBegun (λ _. ⊤) one_more [] r.history refl (all_true r.history)
    (record { below = tt; ended = tt })

-- ---- a view begins

module _ (c : ℕ) (r : Record) (legal : IsLegal r) where
  abbrev all_frozen : Record
  all_frozen = after_freeze c r

  abbrev v : View
  v = begun_by c r

  abbrev n : ℕ
  n = length (begun_views all_frozen.history)

  begun_before : AreBegun all_frozen.history
  begun_before = by_test (nat_eq (buffered r) 0)
    where
      by_test : (b : Bool) → AreBegun (cond b r (with_event r
          (freeze c (next_generation r) (frozen r + 1) (accepted r)))).history
      by_test true = are_begun r legal
      by_test false = neither r.history _ refl refl (are_begun r legal)

  pub begins_opened : open_views (after_begin c r) ≡ open_views r ++ v ∷ []
  begins_opened =
      open_views-begin all_frozen.history v
      (is_among-over v.view n (filter_map ended_view all_frozen.history)
      (All-from_recursion (λ k. k ≤ n) (filter_map ended_view all_frozen.history)
      begun_before.ended) (omega arith))
      ∙ ap (λ (vs : List View). vs ++ v ∷ []) (open_views-after_freeze c r)

  -- and the others are those before
  pub begins_others : without v.view (open_views (after_begin c r)) ≡ open_views r
  begins_others =
      ap (without v.view) begins_opened
      ∙ without_newest (λ (w : View). w.view) v.view (open_views r) v
      (all_weaker (λ w. w.view ≤ n) (λ w. w.view < v.view) (λ w less. omega (arith, less))
      (open_views r) (subst (AllByRecursion (λ w. w.view ≤ n)) (open_views-after_freeze c r)
      (all_filter (λ w. w.view ≤ n)
      (λ w. not (is_among w.view (filter_map ended_view all_frozen.history)))
      (begun_views all_frozen.history) begun_before.below))) refl
