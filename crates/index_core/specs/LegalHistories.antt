-- Which histories are legal: each event meets its line over the record before it. Source: this
-- project's own.
use Rattle.std.specs.Prelude.{◌≡◌, ◌≤◌, ◌<◌, ℕ, ◌+◌, Bool, true, false, nat_eq, Option, Some, None}
use Rattle.std.specs.Prelude.{if◌then◌else◌, List, [], length, take, filter, Contains, slice_get}
use Rattle.sg_paths.specs.Operations.{PlainNumbered, documents_from}
use Rattle.index_core.specs.declared.limits.TheConstants.{MOST_OPERATIONS, BATCH_OPERATIONS}
use Rattle.index_core.specs.declared.limits.TheConstants.{MOST_OPEN_VIEWS}
use Rattle.index_core.specs.Histories.{HistoryEvent, accept, freeze, begin, built}
use Rattle.index_core.specs.Histories.{live_docs_updated, merge_begin, merge_end, merge_drop}
use Rattle.index_core.specs.Histories.{view_end, Record, View, Merge}
use Rattle.index_core.specs.Histories as events
use Rattle.index_core.specs.Records.{accepted, frozen, buffered, next_generation, next_view}
use Rattle.index_core.specs.Records.{open_views, next_merge, open_merges, current, released}
use Rattle.index_core.specs.Generations.{holders_of, is_kept_by, applied, is_built}
use Rattle.index_core.specs.Merges.{merge_plan}

-- whether it freezes a batch
abbrev pub is_freeze : HistoryEvent → Bool
is_freeze (freeze caller generation from upto) = true
is_freeze _ = false

-- a merge of that number is open and was begun by this caller
pub record IsOpenMerge (r : Record) (caller merge : ℕ) (m : Merge) : Type 0 where
  pub is_open : Contains (open_merges r) m
  pub by_caller : m.caller ≡ caller
  pub number : m.merge ≡ merge

-- a view of that number is open and was begun by this caller
pub record IsOpenView (r : Record) (caller view : ℕ) (v : View) : Type 0 where
  pub is_open : Contains (open_views r) v
  pub by_caller : v.caller ≡ caller
  pub number : v.view ≡ view

-- the documents that a merge keeps, by number: those that its generations hold and its deletes
-- don't reach
abbrev pub merged_documents : Record → Merge → List PlainNumbered
merged_documents r m =
    filter (λ d. is_kept_by r.journal d (holders_of r d) m) (documents_from 1 r.journal)

-- the generation that they become, or none where there are no such documents
abbrev pub merged_generation : Record → Merge → Option ℕ
merged_generation r m =
    if nat_eq (length (merged_documents r m)) 0 then None else Some (next_generation r)

-- each event's line, over the record before it
abbrev pub MeetsLine : Record → HistoryEvent → Type 0
MeetsLine r (accept caller seq) = (seq ≡ accepted r + 1) × (seq ≤ MOST_OPERATIONS)
MeetsLine r (freeze caller generation from upto) =
    (generation ≡ next_generation r) × (from ≡ frozen r + 1)
    × (upto ≡ accepted r) × (frozen r < accepted r)
MeetsLine r (begin caller view upto generations) =
    (view ≡ next_view r) × (upto ≡ accepted r)
    × (frozen r ≡ accepted r) × (generations ≡ current r)
    × (length (open_views r) < MOST_OPEN_VIEWS)
MeetsLine r (built caller generation) =
    Contains (current r) generation × (is_built r generation ≡ false)
MeetsLine r (live_docs_updated caller generation upto) =
    Contains (current r) generation × (is_built r generation ≡ true)
    × (applied r generation < upto) × (upto ≤ frozen r)
MeetsLine r (merge_begin caller merge generations) =
    (merge ≡ next_merge r) × (merge_plan r ≡ Some generations)
MeetsLine r (merge_end caller merge into gone) =
    (m : Merge) × IsOpenMerge r caller merge m × (into ≡ merged_generation r m)
    × (gone ≡ released r (merge_end caller merge into []))
MeetsLine r (merge_drop caller merge) = (m : Merge) × IsOpenMerge r caller merge m
MeetsLine r (view_end caller view gone) =
    (v : View) × IsOpenView r caller view v
    × (gone ≡ released r (view_end caller view []))

-- an event that may come next: it meets its line, and where the buffer is full it freezes that
pub record IsLegalNext (r : Record) (event : HistoryEvent) : Type 0 where
  pub line : MeetsLine r event
  pub freezes_when_full : buffered r ≡ BATCH_OPERATIONS → is_freeze event ≡ true

-- the record after its first events
abbrev pub first_events : ℕ → Record → Record
first_events count r =
    let first = take count r.history in
    record r { history = first; journal = take (events.accepted first) r.journal }

-- one operation for each accept, each event legal after those before it, and no full buffer left
pub record IsLegal (r : Record) : Type 0 where
  pub numbered : length r.journal ≡ accepted r
  pub events : (k : ℕ) (event : HistoryEvent)
      → slice_get r.history k ≡ Some event → IsLegalNext (first_events k r) event
  pub not_full : buffered r < BATCH_OPERATIONS
