-- What the calls that close a merge ask of the store, and what they leave.
use Rattle.std.proofs.Common.{◌≡◌, ◌≤◌, ◌<◌, ◌+◌, ℕ, false, Some, None, List}
use Rattle.std.proofs.Common.{[]}
use Rattle.std.proofs.Common.{◌∷◌, length, refl, sym, ap, ◌∙◌, subst, arith}
use Rattle.std.specs.Prelude.{All, Contains}
use Rattle.std.specs.List.{filter_map}
use Rattle.std.specs.List.Sorted.{IsStrictlyIncreasing}
use Rattle.sg_paths.specs.Operations.{PlainNumbered}
use Rattle.segment.specs.Views.{PlainParts}
use Rattle.index_holds.specs.Holders.{is_held, after_retire, given_up, HasHolder, IsCurrentAndHeld}
use Rattle.merge_work.specs.Merging.{unless_empty}
use Rattle.index_core.specs.Histories.{HistoryEvent, merge_drop, Record, Merge}
use Rattle.index_core.specs.Histories.{begun_view, ended_view, closed_merge, merges_from}
use Rattle.index_core.specs.Records.{with_event, open_views, open_merges}
use Rattle.index_core.specs.LegalHistories.{merged_documents}
use Rattle.index_core.specs.MergeCalls.{merge_of, after_commit, after_drop, released_by_merge}
use Rattle.index_core.specs.MergeCalls.{without_merge}
use Rattle.index_core.specs.Fields.{Stored, record_of, IsKept, dropping, retiring}
use Rattle.index_core.specs.OwnLists.{list_of}
use Rattle.index_core.specs.Fields.{bringing}
use Rattle.index_core.proofs.ViewLemmas.{open_views-skip}
use Rattle.index_core.proofs.OpenMergeLemmas.{open_merges-close}
use Rattle.index_core.proofs.GivenUpLemmas.{few_retired}
use Rattle.index_core.proofs.CommittingLemmas.{some_merging, merge_rises, merge_has_list}
use Rattle.index_core.proofs.CommittingLemmas.{drop_holds, drops, none_holds, retires}
use Rattle.index_core.proofs.CommittingLemmas.{some_new, brings, unless_some}
use Rattle.index_core.proofs.CommittingLemmas.{unless_none, none_is, some_is}

-- what such a call leaves: the record afterwards, one open merge fewer, and the same open views
pub record Closes (now : Record) (number : ℕ) (k : Stored) (after : Record) : Type 0 where
  pub kept : IsKept k
  pub record_is : record_of k ≡ after
  pub ended : open_merges after ≡ without_merge number (open_merges now)
  pub views : open_views after ≡ open_views now

closes : (now : Record) (n : ℕ) (k : Stored) (e : HistoryEvent) → IsKept k
    → record_of k ≡ with_event now e → begun_view e ≡ None → ended_view e ≡ None
    → ((i : ℕ) → merges_from i (e ∷ []) ≡ []) → filter_map closed_merge (e ∷ []) ≡ n ∷ []
    → Closes now n k (with_event now e)
closes now n k e kept is no-begin no-end none closed = record {
  kept = kept;
  record_is = is;
  ended = open_merges-close now.history e n none closed;
  views = open_views-skip now.history e no-begin no-end;
}

-- the merge of these parts is open in a record that the store keeps
module _ {k : Stored} (kept : IsKept k) (now : Record) (caller : ℕ) (parts : PlainParts)
    (same : record_of k ≡ now) (open_there : Contains (open_merges now) (merge_of caller parts))
  where
    abbrev m : Merge
    m = merge_of caller parts

    there : Contains (open_merges (record_of k)) m
    there = subst (λ (r : Record). Contains (open_merges r) m) (sym same) open_there

    -- ---- what is asked

    pub asks_some : 0 < k.lists.merges_open
    asks_some = some_merging kept caller m there refl

    pub asks_room : length k.history < k.places
    asks_room = let some = asks_some in omega (arith, kept.fields.room, some)

    pub asks_rising : (gens : List ℕ) → gens ≡ parts.generations → IsStrictlyIncreasing gens
    asks_rising gens is =
        subst IsStrictlyIncreasing (sym is) (merge_rises kept caller m there refl)

    pub asks_list : (number : ℕ) (gens : List ℕ) → number ≡ parts.number
        → gens ≡ parts.generations → list_of number k.lists.merges ≡ gens
    asks_list number gens number-is is =
        rw (number-is, is) (merge_has_list kept caller m there refl)

    pub asks_holders : (gens : List ℕ) → gens ≡ parts.generations → All (HasHolder k.held) gens
    asks_holders gens is =
        subst (All (HasHolder k.held)) (sym is) (drop_holds kept caller m there refl).holders

    pub asks_current : (gens : List ℕ) → gens ≡ parts.generations
        → All (IsCurrentAndHeld k.held) gens
    asks_current gens is =
        subst (All (IsCurrentAndHeld k.held)) (sym is)
        (none_holds kept caller m there refl).holders

    pub asks_few : (gens : List ℕ) → gens ≡ parts.generations
        → length (given_up k.held (after_retire gens k.held)) ≤ length gens
    asks_few gens is =
        few_retired (record_of k) gens k.held kept.held.counts kept.held.rise (asks_rising gens is)
        (asks_current gens is)

    pub asks_new : (gens : List ℕ) → gens ≡ parts.generations
        → is_held (after_retire gens k.held) (k.drawn_count + 1) ≡ false
    asks_new gens is =
        subst (λ (gs : List ℕ). is_held (after_retire gs k.held) (k.drawn_count + 1) ≡ false)
        (sym is) (some_new kept caller m there refl)

    -- ---- what is left

    pub dropped : (k' : Stored) (number : ℕ) (gens : List ℕ) → number ≡ parts.number
        → gens ≡ parts.generations → k' ≡ dropping caller number gens k
        → Closes now parts.number k' (after_drop caller m now)
    dropped k' number gens number-is is becomes =
        let left = drops kept caller m there refl in
        rw (becomes, number-is, is)
        (closes now parts.number (dropping caller parts.number parts.generations k)
        (merge_drop caller parts.number) left.kept
        (left.record_is ∙ ap (after_drop caller m) same) refl refl (λ i. refl) refl)

    -- a merge that brings nothing
    module _ (empty : None ≡ unless_empty (merged_documents now m)) where
      empty_there : merged_documents (record_of k) m ≡ []
      empty_there =
          ap (λ (r : Record). merged_documents r m) same
          ∙ unless_none (merged_documents now m) empty

      pub retired : (k' : Stored) (number : ℕ) (gens : List ℕ) → number ≡ parts.number
          → gens ≡ parts.generations → k' ≡ retiring caller number gens k
          → Closes now parts.number k' (after_commit caller m now)
      retired k' number gens number-is is becomes =
          let left = retires kept caller m there refl empty_there in
          rw (becomes, number-is, is)
          (closes now parts.number (retiring caller parts.number parts.generations k)
          _ left.kept (left.record_is ∙ ap (after_commit caller m) same) refl refl (λ i. refl) refl)

      pub retired_freed : (gens : List ℕ) → gens ≡ parts.generations
          → given_up k.held (after_retire gens k.held) ≡ released_by_merge caller m now
      retired_freed gens is =
          ap (λ (gs : List ℕ). given_up k.held (after_retire gs k.held)) is
          ∙ none_is kept caller m there refl empty_there
          ∙ ap (released_by_merge caller m) same

    -- one that brings these documents
    module _ (documents : List PlainNumbered)
        (some : Some documents ≡ unless_empty (merged_documents now m)) where
      are_there : documents ≡ merged_documents (record_of k) m
      are_there =
          (unless_some documents (merged_documents now m) some).0
          ∙ ap (λ (r : Record). merged_documents r m) (sym same)

      long : 0 < length documents
      long = (unless_some documents (merged_documents now m) some).1

      pub came : (k' : Stored) (number upto : ℕ) (gens : List ℕ) → number ≡ parts.number
          → upto ≡ parts.upto → gens ≡ parts.generations
          → k' ≡ bringing caller number upto gens documents k
          → Closes now parts.number k' (after_commit caller m now)
      came k' number upto gens number-is upto-is is becomes =
          let left = brings kept caller m there refl documents are_there long in
          rw (becomes, number-is, upto-is, is)
          (closes now parts.number
          (bringing caller parts.number parts.upto parts.generations documents k) _ left.kept
          (left.record_is ∙ ap (after_commit caller m) same) refl refl (λ i. refl) refl)

      pub came_freed : (gens : List ℕ) → gens ≡ parts.generations
          → given_up k.held (after_retire gens k.held) ≡ released_by_merge caller m now
      came_freed gens is =
          ap (λ (gs : List ℕ). given_up k.held (after_retire gs k.held)) is
          ∙ some_is kept caller m there refl documents are_there long
          ∙ ap (released_by_merge caller m) same
