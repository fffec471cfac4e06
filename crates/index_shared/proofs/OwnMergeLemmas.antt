-- What is open by a caller, whatever others do: merges. Only who began a merge ends or drops it.
use Rattle.std.proofs.Common.{◌≡◌, ◌+◌, ℕ, true, false, nat_eq, List, []}
use Rattle.std.proofs.Common.{◌∷◌, ◌++◌, refl, sym, ap, ◌∙◌}
use Rattle.std.specs.Prelude.{filter, not, if◌then◌else◌}
use Rattle.std.specs.List.{filter_map}
use Rattle.turn_lock.specs.Handles.{own}
use Rattle.sg_paths.specs.Operations.{PlainOp}
use Rattle.index_core.specs.declared.limits.TheConstants.{BATCH_OPERATIONS}
use Rattle.index_core.specs.Histories.{HistoryEvent, accept, freeze, built, live_docs_updated}
use Rattle.index_core.specs.Histories.{merge_begin, merge_end, merge_drop, view_end, Record, Merge}
use Rattle.index_core.specs.Histories.{is_among, closed_merge, begun_merges, open_merges}
use Rattle.index_core.specs.Records.{with_event, accepted, frozen, buffered, next_generation}
use Rattle.index_core.specs.LegalHistories.{IsLegal, IsOpenMerge}
use Rattle.index_core.specs.Calls.{with_operation, after_freeze, after_accept, after_begin}
use Rattle.index_core.specs.Calls.{after_end, view_of_all, beginning, released_by_end}
use Rattle.index_core.specs.CurrentPieces.{is_unbuilt, after_built, is_behind, after_lived}
use Rattle.index_core.specs.MergeCalls.{without_merge}
use Rattle.index_core.proofs.EventLemmas.{begun_by, open_merges-skip}
use Rattle.index_core.proofs.HistoryLemmas.{skips}
use Rattle.index_core.proofs.KnownMergeLemmas.{open_once}
use Rattle.index_core.proofs.OpenMergeLemmas.{new_merge, begun_merges-begin, open_merges-close}
use Rattle.index_shared.specs.Sections.{caller_of, seen_by}
use Rattle.index_shared.specs.OwnViews.{merges_by, OwnMergesStay}
use Rattle.index_shared.proofs.ListLemmas.{other_more, without_other}
use Rattle.index_shared.proofs.WalkLemmas.{AtEvent, others_stay}

abbrev merges_of : ℕ → List HistoryEvent → List Merge
merges_of c h = filter (λ m. nat_eq m.caller c) (open_merges h)

-- ---- one event of another

begins : (c : ℕ) (xs : List HistoryEvent) (caller n : ℕ) (gens : List ℕ)
    → nat_eq caller c ≡ false
    → merges_of c (xs ++ merge_begin caller n gens ∷ []) ≡ merges_of c xs
begins c xs caller n gens other =
    rw (skips closed_merge xs (merge_begin caller n gens) refl)
    (rw (begun_merges-begin xs caller n gens)
    (other_more (λ (m : Merge). m.caller) c
    (λ m. not (is_among m.merge (filter_map closed_merge xs))) (begun_merges xs)
    (new_merge xs caller n gens) other))

closes : (c : ℕ) (xs : List HistoryEvent) (e : HistoryEvent) (n caller : ℕ) (m : Merge)
    → (at : AtEvent xs e)
    → IsOpenMerge (record { history = xs; journal = at.journal }) caller n m
    → ((k : ℕ) → begun_by k e ≡ []) → filter_map closed_merge (e ∷ []) ≡ n ∷ []
    → nat_eq caller c ≡ false → merges_of c (xs ++ e ∷ []) ≡ merges_of c xs
closes c xs e n caller m at opened none ends other =
    ap (λ (ms : List Merge). filter (λ x. nat_eq x.caller c) ms)
    (open_merges-close xs e n none ends
    ∙ ap (λ (k : ℕ). without_merge k (open_merges xs)) (sym opened.number))
    ∙ without_other (λ (x : Merge). x.caller) c (λ x. x.merge) m (open_merges xs)
    (ap (λ (k : ℕ). nat_eq k c) opened.by_caller ∙ other)
    (open_once (record { history = xs; journal = at.journal }) at.sound.plain.merges m
    opened.is_open).only

merges_after : (c : ℕ) (xs : List HistoryEvent) (e : HistoryEvent) → AtEvent xs e
    → nat_eq (caller_of e) c ≡ false → merges_of c (xs ++ e ∷ []) ≡ merges_of c xs
merges_after c xs (merge_begin caller n gens) at other = begins c xs caller n gens other
merges_after c xs (merge_end caller n into gone) at other =
    closes c xs (merge_end caller n into gone) n caller at.line.0 at at.line.1 (λ k. refl) refl
    other
merges_after c xs (merge_drop caller n) at other =
    closes c xs (merge_drop caller n) n caller at.line.0 at at.line.1 (λ k. refl) refl other
merges_after c xs e at other =
    ap (λ (ms : List Merge). filter (λ x. nat_eq x.caller c) ms)
    (open_merges-skip xs e (λ k. refl) refl)

-- ---- all of them

pub merges_stay : (c : ℕ) (first r : Record) (more : List HistoryEvent)
    → r.history ≡ first.history ++ more → own caller_of c more ≡ [] → IsLegal r
    → merges_by c r ≡ merges_by c first
merges_stay c first r more is none legal =
    others_stay c (merges_of c) (merges_after c) first r more is none legal

pub own_merges_stay : OwnMergesStay
own_merges_stay h found finds legal =
    merges_stay h.number (seen_by h) found finds.later.events finds.later.history_is finds.others
    legal

-- ---- calls that begin and close no merge

abbrev opened : Record → List Merge
opened r = open_merges r.history

pub open_merges-after_freeze : (caller : ℕ) (r : Record) → opened (after_freeze caller r) ≡ opened r
open_merges-after_freeze caller r =
    let event = freeze caller (next_generation r) (frozen r + 1) (accepted r) in
    elim (nat_eq (buffered r) 0) as (λ none.
    opened (if none then r else with_event r event) ≡ opened r) [
      | true ↦ refl
      | false ↦ open_merges-skip r.history event (λ k. refl) refl
    ]

pub open_merges-after_built : (caller g : ℕ) (r : Record)
    → opened (after_built caller g r) ≡ opened r
open_merges-after_built caller g r =
    elim (is_unbuilt r g) as (λ b.
    opened (if b then with_event r (built caller g) else r) ≡ opened r) [
      | true ↦ open_merges-skip r.history (built caller g) (λ k. refl) refl
      | false ↦ refl
    ]

pub open_merges-after_lived : (caller g upto : ℕ) (r : Record)
    → opened (after_lived caller g upto r) ≡ opened r
open_merges-after_lived caller g upto r =
    elim (is_behind r g upto) as (λ b.
    opened (if b then with_event r (live_docs_updated caller g upto) else r) ≡ opened r) [
      | true ↦ open_merges-skip r.history (live_docs_updated caller g upto) (λ k. refl) refl
      | false ↦ refl
    ]

pub open_merges-after_accept : (caller : ℕ) (operation : PlainOp) (r : Record)
    → opened (after_accept caller operation r) ≡ opened r
open_merges-after_accept caller operation r =
    let added = with_operation caller operation r in
    let one : opened added ≡ opened r =
    open_merges-skip r.history (accept caller (accepted r + 1)) (λ k. refl) refl in
    elim (nat_eq (buffered added) BATCH_OPERATIONS) as (λ full.
    opened (if full then after_freeze caller added else added) ≡ opened r) [
      | true ↦ open_merges-after_freeze caller added ∙ one
      | false ↦ one
    ]

pub open_merges-after_begin : (caller : ℕ) (r : Record) → opened (after_begin caller r) ≡ opened r
open_merges-after_begin caller r =
    let all = after_freeze caller r in
    open_merges-skip all.history (beginning (view_of_all caller all)) (λ k. refl) refl
    ∙ open_merges-after_freeze caller r

pub open_merges-after_end : (caller view : ℕ) (r : Record)
    → opened (after_end caller view r) ≡ opened r
open_merges-after_end caller view r =
    open_merges-skip r.history (view_end caller view (released_by_end caller view r)) (λ k. refl)
    refl
