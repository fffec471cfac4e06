-- What each call does to a record, and when it refuses. Source: this project's own.
use Rattle.std.specs.Prelude.{◌≡◌, ◌<◌, ℕ, ◌+◌, nat_eq, if◌then◌else◌, Option, Some, None, List, []}
use Rattle.std.specs.Prelude.{◌∷◌, ◌++◌, length}
use Rattle.sg_paths.specs.Operations.{PlainOp}
use Rattle.index_core.specs.declared.limits.TheConstants.{MOST_OPERATIONS, BATCH_OPERATIONS}
use Rattle.index_core.specs.declared.limits.TheConstants.{MOST_OPEN_VIEWS}
use Rattle.index_core.specs.declared.refusal.Why.{Why}
use Rattle.index_core.specs.declared.refusal.Why.TheVariants.{Full, Memory}
use Rattle.index_core.specs.declared.refusal.ViewError.{ViewError}
use Rattle.index_core.specs.declared.refusal.ViewError.TheVariants.{TooMany, Memory as ViewMemory}
use Rattle.index_core.specs.Histories.{HistoryEvent, accept, freeze, begin, view_end, Record, View}
use Rattle.index_core.specs.Records.{with_event, accepted, frozen, buffered, next_generation}
use Rattle.index_core.specs.Records.{next_view, open_views, current, released}

-- the record before any call
abbrev pub empty_record : Record
empty_record = record { history = []; journal = [] }

-- the record with one operation more
abbrev pub with_operation : ℕ → PlainOp → Record → Record
with_operation caller operation r = record r {
  history = r.history ++ accept caller (accepted r + 1) ∷ [];
  journal = r.journal ++ operation ∷ [];
}

-- what is buffered becomes a batch, if anything is
abbrev pub after_freeze : ℕ → Record → Record
after_freeze caller r =
    if nat_eq (buffered r) 0 then r
    else with_event r (freeze caller (next_generation r) (frozen r + 1)
    (accepted r))

-- the generation that it gets, or none where nothing is buffered
abbrev pub frozen_generation : Record → Option ℕ
frozen_generation r =
    if nat_eq (buffered r) 0 then None else Some (next_generation r)

-- the operation that fills the buffer is frozen with it
abbrev pub after_accept : ℕ → PlainOp → Record → Record
after_accept caller operation r =
    let added = with_operation caller operation r in
    if nat_eq (buffered added) BATCH_OPERATIONS then after_freeze caller added else added

-- the view that begins next where nothing is buffered
abbrev pub view_of_all : ℕ → Record → View
view_of_all caller r = record {
  caller = caller;
  view = next_view r;
  upto = accepted r;
  generations = current r;
}

-- the view that begins next
abbrev pub begun_by : ℕ → Record → View
begun_by caller r = view_of_all caller (after_freeze caller r)

-- the event that begins a view
abbrev pub beginning : View → HistoryEvent
beginning v = begin v.caller v.view v.upto v.generations

-- everything buffered is frozen first
abbrev pub after_begin : ℕ → Record → Record
after_begin caller r =
    let all_frozen = after_freeze caller r in
    with_event all_frozen (beginning (view_of_all caller all_frozen))

-- the generations that nothing references once a view has ended
abbrev pub released_by_end : ℕ → ℕ → Record → List ℕ
released_by_end caller view r = released r (view_end caller view [])

-- the view is given back
abbrev pub after_end : ℕ → ℕ → Record → Record
after_end caller view r =
    with_event r (view_end caller view (released_by_end caller view r))

-- why an operation is refused; want of memory may come wherever there is room
abbrev pub RefusesOperation : Record → Why → Type 0
RefusesOperation r (Full count) =
    (accepted r ≡ MOST_OPERATIONS) × (count ≡ MOST_OPERATIONS)
RefusesOperation r Memory = accepted r < MOST_OPERATIONS

-- why a view is refused; want of memory may come wherever fewer are open
abbrev pub RefusesView : Record → ViewError → Type 0
RefusesView r (TooMany count) =
    (length (open_views r) ≡ MOST_OPEN_VIEWS) × (count ≡ MOST_OPEN_VIEWS)
RefusesView r ViewMemory = length (open_views r) < MOST_OPEN_VIEWS
