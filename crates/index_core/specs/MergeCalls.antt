-- What the calls of a merge do to a record, and what the parts of a merge are. Source: Lucene's
-- IndexWriter, whose merges write the live documents of their sources and replace these.
use Rattle.std.specs.Prelude.{◌≡◌, ℕ, not, nat_eq, Option, Some, None, option_map, List, [], filter}
use Rattle.std.specs.List.{AllByRecursion}
use Rattle.segment.specs.Views.{PlainParts, AreCovered}
use Rattle.index_core.specs.Histories.{HistoryEvent, merge_begin, merge_end, merge_drop, Record}
use Rattle.index_core.specs.Histories.{Merge}
use Rattle.index_core.specs.Records.{with_event, frozen, next_merge, released}
use Rattle.index_core.specs.LegalHistories.{merged_generation}
use Rattle.index_core.specs.Merges.{merge_plan}
use Rattle.index_core.specs.CurrentPieces.{IsPieceOf, AreNeeded}

-- the merge that the parts are of
abbrev pub merge_of : ℕ → PlainParts → Merge
merge_of caller parts = record {
  caller = caller;
  merge = parts.number;
  upto = parts.upto;
  generations = parts.generations;
}

-- the merge of these generations that begins next
abbrev pub next_merge_by : ℕ → Record → List ℕ → Merge
next_merge_by caller r generations = record {
  caller = caller;
  merge = next_merge r;
  upto = frozen r;
  generations = generations;
}

-- the merge that the plan begins, if there is a plan
abbrev pub merge_begun_by : ℕ → Record → Option Merge
merge_begun_by caller r = option_map (next_merge_by caller r) (merge_plan r)

-- a merge of these generations has begun, if there are any
abbrev pub after_begin_of : ℕ → Record → Option (List ℕ) → Record
after_begin_of caller r None = r
after_begin_of caller r (Some generations) =
    with_event r (merge_begin caller (next_merge r) generations)

-- the merge that the plan begins has begun
abbrev pub after_begin_merge : ℕ → Record → Record
after_begin_merge caller r = after_begin_of caller r (merge_plan r)

-- the event that ends a merge, with what it brings
abbrev pub ending_merge : ℕ → Merge → Record → List ℕ → HistoryEvent
ending_merge caller m r gone = merge_end caller m.merge (merged_generation r m) gone

-- the generations that nothing references once a merge has ended
abbrev pub released_by_merge : ℕ → Merge → Record → List ℕ
released_by_merge caller m r = released r (ending_merge caller m r [])

-- a merge has ended
abbrev pub after_commit : ℕ → Merge → Record → Record
after_commit caller m r =
    with_event r (ending_merge caller m r (released_by_merge caller m r))

-- a merge is given up
abbrev pub after_drop : ℕ → Merge → Record → Record
after_drop caller m r = with_event r (merge_drop caller m.merge)

-- the merges with another number
abbrev pub without_merge : ℕ → List Merge → List Merge
without_merge number merges = filter (λ m. not (nat_eq m.merge number)) merges

-- parts are those of a merge that begins: each piece as the record says, with all operations that
-- are frozen since, and no batch that all of them know
pub record AreMergeOf (r : Record) (parts : PlainParts) : Type 0 where
  pub covered : AreCovered r.journal parts
  pub each : AllByRecursion (IsPieceOf r) parts.pieces
  pub upto : parts.upto ≡ frozen r
  pub needed : AreNeeded parts.pieces parts.batches
