-- What a store shares for a merge that has begun are the parts of the merge.
use Rattle.std.proofs.Common.{◌≡◌, ◌≤◌, ◌+◌, ℕ, Bool, true, false, cond, Option, Some, List}
use Rattle.std.proofs.Common.{[]}
use Rattle.std.proofs.Common.{◌∷◌, ◌++◌, length, map, drop, refl, sym, ap, ◌∙◌, subst}
use Rattle.std.specs.Prelude.{filter, Contains, option_map}
use Rattle.std.specs.List.{AllByRecursion, filter_map}
use Rattle.std.proofs.lemmas.List.Elements.{Contains-push}
use Rattle.sg_paths.specs.Operations.{PlainBatch}
use Rattle.segment.specs.Pieces.{PlainPiece}
use Rattle.segment.specs.Views.{PlainParts, AreCovered}
use Rattle.merge_work.specs.Merging.{AreMergeable}
use Rattle.index_core.specs.Histories.{HistoryEvent, merge_begin, Record, Merge, is_among}
use Rattle.index_core.specs.Histories.{closed_merge}
use Rattle.index_core.specs.Records.{frozen, current, next_merge, open_merges}
use Rattle.index_core.specs.Merges.{merge_plan}
use Rattle.index_core.specs.CurrentPieces.{IsPieceOf, AreNeeded}
use Rattle.index_core.specs.MergeCalls.{merge_of, next_merge_by, merge_begun_by, after_begin_merge}
use Rattle.index_core.specs.MergeCalls.{AreMergeOf}
use Rattle.index_core.specs.EndedMerges.{sources}
use Rattle.index_core.specs.HeldGenerations.{RisesFrom}
use Rattle.index_core.specs.Keeping.{least_applied, known_batches}
use Rattle.index_core.specs.Fields.{Stored, record_of, IsKept, AreSizesWithin, merging}
use Rattle.index_core.proofs.CommittingLemmas.{merge_number, planned, merges}
use Rattle.index_core.proofs.HistoryLemmas.{frozen-skip}
use Rattle.index_core.proofs.KeptLemmas.{Leaves}
use Rattle.index_core.proofs.ListLemmas.{all_filter}
use Rattle.index_core.proofs.KnownMergeLemmas.{next_not_closed}
use Rattle.index_core.proofs.MergeableLemmas.{mergeable}
use Rattle.index_core.proofs.MergedPieceLemmas.{own_generations}
use Rattle.index_core.proofs.MergesLemmas.{frozen_after-is}
use Rattle.index_core.proofs.OpenMergeLemmas.{new_merge, open_merges-begin}
use Rattle.index_core.proofs.NeededLemmas.{needed}
use Rattle.index_core.proofs.PartsLemmas.{shared_parts, covered_are}
use Rattle.index_core.proofs.ViewingLemmas.{shared}

-- what a merge that begins leaves, and what its parts are
pub record BeginsMerge (k : Stored) (caller : ℕ) (gens : List ℕ) (parts : PlainParts)
    : Type 0 where
  pub left : Leaves (merging caller gens k) (after_begin_merge caller (record_of k))
  pub merge : option_map (merge_of caller) (Some parts) ≡ merge_begun_by caller (record_of k)
  pub parts_of : AreMergeOf (record_of (merging caller gens k)) parts
  pub mergeable : AreMergeable parts
  pub begun : Contains (open_merges (record_of (merging caller gens k))) (merge_of caller parts)

-- the generations of the pieces of a merge
source_generations : (gens : List ℕ) (ps : List PlainPiece)
    → map (λ p. p.generation) (sources gens ps)
    ≡ filter (λ g. is_among g gens) (map (λ p. p.generation) ps)
source_generations gens [] = refl
source_generations gens (p ∷ ps) = by_test (is_among p.generation gens) (source_generations gens ps)
  where
    by_test : (b : Bool)
        → map (λ q. q.generation) (sources gens ps)
        ≡ filter (λ g. is_among g gens) (map (λ q. q.generation) ps)
        → map (λ q. q.generation) (cond b (p ∷ sources gens ps) (sources gens ps))
        ≡ cond b (p.generation ∷ filter (λ g. is_among g gens) (map (λ q. q.generation) ps))
        (filter (λ g. is_among g gens) (map (λ q. q.generation) ps))
    by_test true e = ap (λ (gs : List ℕ). p.generation ∷ gs) e
    by_test false e = e

module _ {k : Stored} (kept : IsKept k) (caller : ℕ) (gens : List ℕ) (parts : PlainParts)
    (plan : merge_plan (record_of k) ≡ Some gens)
    (number : parts.number ≡ k.lists.merges_begun + 1) (upto : parts.upto ≡ k.frozen_count)
    (pieces : parts.pieces ≡ sources gens k.pieces) (generations : parts.generations ≡ gens) where
  abbrev r : Record
  r = record_of k

  abbrev s : Record
  s = record_of (merging caller gens k)

  abbrev e : HistoryEvent
  e = merge_begin caller (k.lists.merges_begun + 1) gens

  -- ---- which merge

  abbrev made : ℕ → ℕ → List ℕ → Merge
  made n u gs = record { caller = caller; merge = n; upto = u; generations = gs }

  next_same : merge_of caller parts ≡ next_merge_by caller r gens
  next_same =
      ap (λ (n : ℕ). made n parts.upto parts.generations) (number ∙ sym (merge_number kept))
      ∙ ap (λ (n : ℕ). made (next_merge r) n parts.generations)
      (upto ∙ sym kept.fields.frozen_upto_last)
      ∙ ap (λ (gs : List ℕ). made (next_merge r) (frozen r) gs) generations

  is_next : option_map (merge_of caller) (Some parts) ≡ merge_begun_by caller r
  is_next =
      ap (λ (m : Merge). Some m) next_same
      ∙ ap (λ (o : Option (List ℕ)). option_map (next_merge_by caller r) o) (sym plan)

  -- it is open
  new_same : new_merge k.history caller (k.lists.merges_begun + 1) gens ≡ merge_of caller parts
  new_same =
      ap (λ (n : ℕ). made (k.lists.merges_begun + 1) n gens)
      (frozen_after-is 0 k.history ∙ kept.fields.frozen_upto_last ∙ sym upto)
      ∙ ap (λ (n : ℕ). made n parts.upto gens) (sym number)
      ∙ ap (λ (gs : List ℕ). made parts.number parts.upto gs) (sym generations)

  is_open : Contains (open_merges s) (merge_of caller parts)
  is_open =
      let before = open_merges r in
      let new = new_merge k.history caller (k.lists.merges_begun + 1) gens in
      let unclosed : is_among (k.lists.merges_begun + 1) (filter_map closed_merge k.history)
      ≡ false =
      subst (λ (n : ℕ). is_among n (filter_map closed_merge k.history) ≡ false)
      (merge_number kept) (next_not_closed r kept.plain.merges) in
      subst (λ (ms : List Merge). Contains ms (merge_of caller parts))
      (sym (open_merges-begin k.history caller (k.lists.merges_begun + 1) gens unclosed))
      (subst (λ (m : Merge). Contains (before ++ new ∷ []) m) new_same
      (Contains-push before new))

  -- ---- its parts

  rising : RisesFrom 1 (current r)
  rising = subst (λ (gs : List ℕ). RisesFrom 1 gs) kept.pieces.generations kept.pieces.rising

  own : map (λ p. p.generation) (sources gens k.pieces) ≡ gens
  own =
      let is = planned kept gens plan in
      source_generations gens k.pieces
      ∙ ap (λ (gs : List ℕ). filter (λ g. is_among g gens) gs) kept.pieces.generations
      ∙ own_generations r gens 1 rising is.rising is.in_use

  each_of : (x : Record) → AllByRecursion (IsPieceOf x) k.pieces
      → AllByRecursion (IsPieceOf x) parts.pieces
  each_of x each =
      subst (λ (ps : List PlainPiece). AllByRecursion (IsPieceOf x) ps) (sym pieces)
      (all_filter (IsPieceOf x) (λ p. is_among p.generation gens) k.pieces each)

  can_be_merged : AreSizesWithin r → AreMergeable parts
  can_be_merged within =
      mergeable r parts 1 rising (plan ∙ ap (λ (gs : List ℕ). Some gs) (sym generations))
      (ap (λ (ps : List PlainPiece). map (λ p. p.generation) ps) pieces ∙ own ∙ sym generations)
      (each_of r kept.pieces.each) within kept.plain.merges.once

  frozen-same : frozen s ≡ k.frozen_count
  frozen-same = frozen-skip k.history e refl ∙ kept.fields.frozen_upto_last

  all_parts : IsKept (merging caller gens k)
      → parts.batches ≡ drop (known_batches (least_applied parts.upto (sources gens k.pieces))
      k.batches) k.batches
      → AreMergeOf s parts
  all_parts after batches =
      let qs = sources gens k.pieces in
      let upto-is : frozen s ≡ parts.upto = frozen-same ∙ sym upto in
      let parts_as : ℕ → List PlainPiece → List PlainBatch → List ℕ → PlainParts =
      λ u ps bs gs. record {
        number = parts.number;
        upto = u;
        pieces = ps;
        batches = bs;
        generations = gs;
      } in
      let same : shared_parts parts.number s qs k.batches ≡ parts =
      ap (λ (n : ℕ). parts_as n qs (drop (known_batches (least_applied n qs) k.batches) k.batches)
      (map (λ p. p.generation) qs)) upto-is
      ∙ ap (λ (bs : List PlainBatch). parts_as parts.upto qs bs (map (λ p. p.generation) qs))
      (sym batches)
      ∙ ap (λ (ps : List PlainPiece). parts_as parts.upto ps parts.batches
      (map (λ p. p.generation) qs)) (sym pieces)
      ∙ ap (λ (gs : List ℕ). parts_as parts.upto parts.pieces parts.batches gs)
      (own ∙ sym generations) in
      record {
        covered = subst (λ (x : PlainParts). AreCovered s.journal x) same
            (covered_are (shared after) parts.number qs
            (all_filter (IsPieceOf s) (λ p. is_among p.generation gens) k.pieces
            after.pieces.each));
        each = each_of s after.pieces.each;
        upto = sym upto-is;
        needed = subst (λ (x : PlainParts). AreNeeded x.pieces x.batches) same
            (needed (frozen s) qs k.batches (shared after).numbered (shared after).all_frozen);
      }

pub begins_merge : {k : Stored} → IsKept k → (caller : ℕ) (gens : List ℕ) (parts : PlainParts)
    → merge_plan (record_of k) ≡ Some gens → AreSizesWithin (record_of k)
    → length k.history + 2 + k.open_count + k.lists.merges_open ≤ k.places
    → parts.number ≡ k.lists.merges_begun + 1 → parts.upto ≡ k.frozen_count
    → parts.pieces ≡ sources gens k.pieces
    → parts.batches ≡ drop (known_batches (least_applied parts.upto (sources gens k.pieces))
    k.batches) k.batches
    → parts.generations ≡ gens → BeginsMerge k caller gens parts
begins_merge {k} kept caller gens parts plan within enough number upto pieces batches generations =
    let left = merges kept caller gens plan enough in
    record {
      left = left;
      merge = is_next kept caller gens parts plan number upto pieces generations;
      parts_of = all_parts kept caller gens parts plan number upto pieces generations left.kept
          batches;
      mergeable = can_be_merged kept caller gens parts plan number upto pieces generations within;
      begun = is_open kept caller gens parts plan number upto pieces generations;
    }
