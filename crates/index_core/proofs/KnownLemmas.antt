-- In a legal record each merge that ended was begun: begun merges have the numbers in order.
use Rattle.std.proofs.Common.{◌≡◌, ◌<◌, ◌≤◌, ◌+◌, ℕ, zero, suc, not}
use Rattle.std.proofs.Common.{Some, List, [], ◌∷◌, ◌++◌, length, take, refl, ap, ◌∙◌}
use Rattle.std.proofs.Common.{arith, length-append}
use Rattle.std.specs.Prelude.{slice_get, Contains}
use Rattle.std.specs.List.{AllByRecursion, filter_map}
use Rattle.std.proofs.lemmas.List.{take_all}
use Rattle.std.proofs.lemmas.List.Elements.{All-from_recursion, All-contains}
use Rattle.index_core.specs.Histories.{HistoryEvent, accept, freeze, begin, built}
use Rattle.index_core.specs.Histories.{live_docs_updated, merge_begin, merge_end, merge_drop}
use Rattle.index_core.specs.Histories.{view_end, Record, Merge, is_among, closed_merge}
use Rattle.index_core.specs.Records.{with_event, begun_merges, next_merge, open_merges}
use Rattle.index_core.specs.LegalHistories.{MeetsLine, IsLegalNext, first_events, IsLegal}
use Rattle.index_core.specs.EndedMerges.{IsOfKnownMerge, HasKnownMerges}
use Rattle.index_core.proofs.EventLemmas.{begun_by, merges-skip}
use Rattle.index_core.proofs.ListLemmas.{all_filter}
use Rattle.index_core.proofs.ListLemmas.{all_weaker, all_more}
use Rattle.index_core.proofs.OpenMergeLemmas.{new_merge, begun_merges-begin}

-- begun merges have lesser numbers than the next, and those that ended were begun
pub record AreKnown (r : Record) : Type 0 where
  pub begun : AllByRecursion (λ m. m.merge < next_merge r) (begun_merges r)
  pub ended : HasKnownMerges r

-- ---- one event more

weaker : (n k : ℕ) → n ≤ k → (e : HistoryEvent) → IsOfKnownMerge n e → IsOfKnownMerge k e
weaker n k less (merge_end caller merge into gone) is = omega (arith, less, is)
weaker n k less other is = tt

-- an event that begins no merge
skip : (r : Record) (e : HistoryEvent) → ((n : ℕ) → begun_by n e ≡ [])
    → IsOfKnownMerge (next_merge r) e → AreKnown r → AreKnown (with_event r e)
skip r e none is known =
    let same = merges-skip r.history e none in
    let next : next_merge (with_event r e) ≡ next_merge r =
    ap (λ (ms : List Merge). length ms + 1) same in
    record {
      begun = rw next (rw same known.begun);
      ended = rw next (all_more (IsOfKnownMerge (next_merge r)) r.history e known.ended is);
    }

-- an open merge was begun
pub open_begun : (r : Record) (m : Merge) → AreKnown r → Contains (open_merges r) m
    → m.merge < next_merge r
open_begun r m known there =
    All-contains (λ (x : Merge). x.merge < next_merge r) (open_merges r) m
    (All-from_recursion (λ (x : Merge). x.merge < next_merge r) (open_merges r)
    (all_filter (λ (x : Merge). x.merge < next_merge r)
    (λ x. not (is_among x.merge (filter_map closed_merge r.history))) (begun_merges r)
    known.begun))
    there

-- a merge begins
begin_more : (r : Record) (caller n : ℕ) (gens : List ℕ) → n ≡ next_merge r → AreKnown r
    → AreKnown (with_event r (merge_begin caller n gens))
begin_more r caller n gens is known =
    let e = merge_begin caller n gens in
    let m = new_merge r.history caller n gens in
    let same : begun_merges (with_event r e) ≡ begun_merges r ++ m ∷ [] =
    begun_merges-begin r.history caller n gens in
    let next : next_merge (with_event r e) ≡ next_merge r + 1 =
    ap (λ (ms : List Merge). length ms + 1) same
    ∙ ap (λ (k : ℕ). k + 1) (length-append (begun_merges r) (m ∷ [])) in
    record {
      begun = rw next (rw same
          (all_more (λ x. x.merge < next_merge r + 1) (begun_merges r) m
          (all_weaker (λ x. x.merge < next_merge r) (λ x. x.merge < next_merge r + 1)
          (λ x less. omega (arith, less)) (begun_merges r) known.begun)
          (omega (arith, is))));
      ended = rw next
          (all_more (IsOfKnownMerge (next_merge r + 1)) r.history e
          (all_weaker (IsOfKnownMerge (next_merge r)) (IsOfKnownMerge (next_merge r + 1))
          (weaker (next_merge r) (next_merge r + 1) (omega arith)) r.history known.ended) tt);
    }

pub known_more : (r : Record) (e : HistoryEvent) → MeetsLine r e → AreKnown r
    → AreKnown (with_event r e)
known_more r (accept a b) line known = skip r (accept a b) (λ n. refl) tt known
known_more r (freeze a b f u) line known = skip r (freeze a b f u) (λ n. refl) tt known
known_more r (begin a b u gs) line known = skip r (begin a b u gs) (λ n. refl) tt known
known_more r (built a b) line known = skip r (built a b) (λ n. refl) tt known
known_more r (live_docs_updated a b c) line known =
    skip r (live_docs_updated a b c) (λ n. refl) tt known
known_more r (merge_begin a b gs) line known = begin_more r a b gs line.0 known
known_more r (merge_end a b into gone) line known =
    let m = line.0 in
    let less = open_begun r m known line.1.is_open in
    let same : m.merge ≡ b = line.1.number in
    skip r (merge_end a b into gone) (λ n. refl) (omega (arith, less, same)) known
known_more r (merge_drop a b) line known = skip r (merge_drop a b) (λ n. refl) tt known
known_more r (view_end a b gone) line known = skip r (view_end a b gone) (λ n. refl) tt known

-- ---- all of the events

pub take_next : (k : ℕ) (h : List HistoryEvent) → k < length h
    → (e : HistoryEvent) × (slice_get h k ≡ Some e) × (take (suc k) h ≡ take k h ++ e ∷ [])
take_next k [] less = absurd (omega (arith, less))
take_next zero (x ∷ h) less = (x, refl, refl)
take_next (suc k) (x ∷ h) less =
    let later = take_next k h (omega (arith, less)) in
    (later.0, later.1, ap (λ (es : List HistoryEvent). x ∷ es) later.2)

known_first : (r : Record)
    → ((k : ℕ) (event : HistoryEvent) → slice_get r.history k ≡ Some event
    → IsLegalNext (first_events k r) event)
    → (k : ℕ) → k ≤ length r.history → AreKnown (first_events k r)
known_first r legal zero less = record { begun = tt; ended = tt }
known_first r legal (suc k) less =
    let next = take_next k r.history (omega (arith, less)) in
    let known = known_more (first_events k r) next.0 (legal k next.0 next.1).line
    (known_first r legal k (omega (arith, less))) in
    record {
      begun = rw next.2 known.begun;
      ended = rw next.2 known.ended;
    }

pub legal_are_known : (r : Record) → IsLegal r → AreKnown r
legal_are_known r legal =
    let whole : take (length r.history) r.history ≡ r.history =
    take_all (length r.history) r.history (omega arith) in
    let known = known_first r legal.events (length r.history) (omega arith) in
    record {
      begun = rw whole at known.begun;
      ended = rw whole at known.ended;
    }

-- in a legal record the merges that ended were begun
pub legal_is_known : (r : Record) → IsLegal r → HasKnownMerges r
legal_is_known r legal = (legal_are_known r legal).ended
