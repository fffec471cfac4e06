-- The history of an index as plain data, and what a list of its events says; what the whole record
-- says stands in `Records`. Source: this project's own, after the sequence numbers, segments and
-- point-in-time readers of Lucene's IndexWriter.
use Rattle.std.specs.Prelude.{ℕ, not, Option, Some, None, List, [], ◌∷◌, length, filter, fold}
use Rattle.std.specs.List.{filter_map, flat_map}
use Rattle.sg_paths.specs.Operations.{PlainOp}
pub use Rattle.index_holds.specs.Holders.{is_among}
use Rattle.index_core.specs.declared.event.Event.{Event}
use Rattle.index_core.specs.declared.event.Event.TheVariants.{Accept, Seal, Begin, Built, Lived}
use Rattle.index_core.specs.declared.event.Event.TheVariants.{MergeBegin, MergeEnd, MergeDrop, End}

-- what happened, with the number of the caller that appended it
pub data HistoryEvent : Type 0 where
  accept : (caller seq : ℕ) → HistoryEvent
  freeze : (caller generation from upto : ℕ) → HistoryEvent
  begin : (caller view upto : ℕ) (generations : List ℕ) → HistoryEvent
  built : (caller generation : ℕ) → HistoryEvent
  live_docs_updated : (caller generation applied : ℕ) → HistoryEvent
  merge_begin : (caller merge : ℕ) (generations : List ℕ) → HistoryEvent
  merge_end : (caller merge : ℕ) (into : Option ℕ) (released : List ℕ) → HistoryEvent
  merge_drop : (caller merge : ℕ) → HistoryEvent
  view_end : (caller view : ℕ) (released : List ℕ) → HistoryEvent

-- an `Event` as plain data
abbrev pub event_of : Event → HistoryEvent
event_of (Accept caller seq) = accept caller seq
event_of (Seal caller generation from upto) = freeze caller generation from upto
event_of (Begin view caller upto generations) = begin caller view upto generations.items
event_of (Built caller generation) = built caller generation
event_of (Lived caller generation applied) = live_docs_updated caller generation applied
event_of (MergeBegin caller merge generations) = merge_begin caller merge generations.items
event_of (MergeEnd caller merge into freed) = merge_end caller merge into freed.items
event_of (MergeDrop caller merge) = merge_drop caller merge
event_of (End caller view freed) = view_end caller view freed.items

-- a history with its journal, whose n-th operation is that of the n-th accept
pub record Record : Type 0 where
  pub history : List HistoryEvent
  pub journal : List PlainOp

-- a point-in-time view of the first upto operations
pub record View : Type 0 where
  pub caller : ℕ
  pub view : ℕ
  pub upto : ℕ
  pub generations : List ℕ

-- a merge of what the first upto operations left in its generations
pub record Merge : Type 0 where
  pub caller : ℕ
  pub merge : ℕ
  pub upto : ℕ
  pub generations : List ℕ

-- the last of the numbers, or 0
abbrev pub last_of : List ℕ → ℕ
last_of numbers = fold (λ _ n. n) 0 numbers

-- the number of the operation that it accepts
abbrev pub accepted_number : HistoryEvent → Option ℕ
accepted_number (accept caller seq) = Some seq
accepted_number _ = None

-- the last operation of the batch that it freezes
abbrev pub frozen_upto : HistoryEvent → Option ℕ
frozen_upto (freeze caller generation from upto) = Some upto
frozen_upto _ = None

-- the generation that it draws
abbrev pub drawn_generation : HistoryEvent → Option ℕ
drawn_generation (freeze caller generation from upto) = Some generation
drawn_generation (merge_end caller merge into released) = into
drawn_generation _ = None

-- the generation that has its segment from then on
abbrev pub built_generation : HistoryEvent → Option ℕ
built_generation (built caller generation) = Some generation
built_generation (merge_end caller merge into released) = into
built_generation _ = None

-- the view that it begins
abbrev pub begun_view : HistoryEvent → Option View
begun_view (begin caller view upto generations) =
    Some (record { caller = caller; view = view; upto = upto; generations = generations })
begun_view _ = None

-- the number of the view that it ends
abbrev pub ended_view : HistoryEvent → Option ℕ
ended_view (view_end caller view released) = Some view
ended_view _ = None

-- the number of the merge that it ends
abbrev pub ended_merge : HistoryEvent → Option ℕ
ended_merge (merge_end caller merge into released) = Some merge
ended_merge _ = None

-- the number of the merge that it ends or drops
abbrev pub closed_merge : HistoryEvent → Option ℕ
closed_merge (merge_end caller merge into released) = Some merge
closed_merge (merge_drop caller merge) = Some merge
closed_merge _ = None

-- how many operations were accepted
abbrev pub accepted : List HistoryEvent → ℕ
accepted history = length (filter_map accepted_number history)

-- how many of them are frozen in batches: the upto of the last freeze
abbrev pub frozen : List HistoryEvent → ℕ
frozen history = last_of (filter_map frozen_upto history)

-- the generations that were drawn, rising
abbrev pub drawn : List HistoryEvent → List ℕ
drawn history = filter_map drawn_generation history

-- the views that were begun, in order
abbrev pub begun_views : List HistoryEvent → List View
begun_views history = filter_map begun_view history

-- those that weren't ended
abbrev pub open_views : List HistoryEvent → List View
open_views history =
    filter (λ v. not (is_among v.view (filter_map ended_view history))) (begun_views history)

-- the merges that events begin, where so many operations were frozen before these
abbrev pub merges_from : ℕ → List HistoryEvent → List Merge
merges_from frozen_before [] = []
merges_from frozen_before (freeze caller generation from upto ∷ events) = merges_from upto events
merges_from frozen_before (merge_begin caller merge generations ∷ events) =
    record { caller = caller; merge = merge; upto = frozen_before; generations = generations }
    ∷ merges_from frozen_before events
merges_from frozen_before (_ ∷ events) = merges_from frozen_before events

-- the merges that were begun, in order
abbrev pub begun_merges : List HistoryEvent → List Merge
begun_merges history = merges_from 0 history

-- those that were neither ended nor dropped
abbrev pub open_merges : List HistoryEvent → List Merge
open_merges history =
    filter (λ m. not (is_among m.merge (filter_map closed_merge history))) (begun_merges history)

-- the generations of merges that ended, which the merged ones replace
abbrev pub replaced : List HistoryEvent → List ℕ
replaced history =
    flat_map (λ m. m.generations)
    (filter (λ m. is_among m.merge (filter_map ended_merge history)) (begun_merges history))

-- the generations in use, rising
abbrev pub current : List HistoryEvent → List ℕ
current history = filter (λ g. not (is_among g (replaced history))) (drawn history)
