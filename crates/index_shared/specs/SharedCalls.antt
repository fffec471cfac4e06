-- What each call of a shared index does in its critical section: it is the core's call, by the
-- handle's number, over the record that the section finds. Source: this project's own.
use Rattle.std.specs.Prelude.{◌≡◌, ◌<◌, ◌+◌, ℕ, Option, List, length}
use Rattle.sg_paths.specs.Operations.{PlainOp}
use Rattle.index_core.specs.declared.limits.TheConstants.{MOST_OPERATIONS, MOST_OPEN_VIEWS}
use Rattle.index_core.specs.declared.refusal.Why.{Why}
use Rattle.index_core.specs.declared.refusal.ViewError.{ViewError}
use Rattle.index_core.specs.Histories.{Record, View, Merge}
use Rattle.index_core.specs.Records.{accepted, open_views}
use Rattle.index_core.specs.LegalHistories.{IsLegal}
use Rattle.index_core.specs.Calls.{after_accept, after_begin, after_end, begun_by, released_by_end}
use Rattle.index_core.specs.Calls.{RefusesOperation, RefusesView}
use Rattle.index_core.specs.MergeCalls.{merge_begun_by, after_begin_merge, released_by_merge}
use Rattle.index_core.specs.MergeCalls.{after_commit, after_drop}
use Rattle.index_shared.specs.Sections.{HandleState, FindsRecord}

-- an operation was accepted
pub record Accepted (h : HandleState) (operation : PlainOp) (seq : ℕ) (seen : Record)
    : Type 0 where
  pub found : Record
  pub finds : FindsRecord h found
  pub legal : IsLegal found
  pub room : accepted found < MOST_OPERATIONS
  pub number : seq ≡ accepted found + 1
  pub after : seen ≡ after_accept h.number operation found

-- none was, and the handle has seen the record found
pub record AcceptRefused (h : HandleState) (why : Why) (seen : Record) : Type 0 where
  pub finds : FindsRecord h seen
  pub refuses : RefusesOperation seen why

-- a view was begun
pub record Begun (h : HandleState) (view : View) (seen : Record) : Type 0 where
  pub found : Record
  pub finds : FindsRecord h found
  pub legal : IsLegal found
  pub room : length (open_views found) < MOST_OPEN_VIEWS
  pub begun : view ≡ begun_by h.number found
  pub after : seen ≡ after_begin h.number found

-- none was, and the handle has seen the record found
pub record BeginRefused (h : HandleState) (why : ViewError) (seen : Record) : Type 0 where
  pub finds : FindsRecord h seen
  pub refuses : RefusesView seen why

-- a view was given back
pub record Ended (h : HandleState) (view : ℕ) (freed : List ℕ) (seen : Record) : Type 0 where
  pub found : Record
  pub finds : FindsRecord h found
  pub legal : IsLegal found
  pub freed_by : freed ≡ released_by_end h.number view found
  pub after : seen ≡ after_end h.number view found

-- the merge that was planned was begun, or none where none was
pub record MergeBegun (h : HandleState) (merge : Option Merge) (seen : Record) : Type 0 where
  pub found : Record
  pub finds : FindsRecord h found
  pub legal : IsLegal found
  pub begun : merge ≡ merge_begun_by h.number found
  pub after : seen ≡ after_begin_merge h.number found

-- there was no memory, and the handle has seen the record found
pub record MergeRefused (h : HandleState) (seen : Record) : Type 0 where
  pub finds : FindsRecord h seen

-- a merge has ended
pub record Committed (h : HandleState) (merge : Merge) (freed : List ℕ) (seen : Record)
    : Type 0 where
  pub found : Record
  pub finds : FindsRecord h found
  pub legal : IsLegal found
  pub freed_by : freed ≡ released_by_merge h.number merge found
  pub after : seen ≡ after_commit h.number merge found

-- a merge was given up
pub record Dropped (h : HandleState) (merge : Merge) (seen : Record) : Type 0 where
  pub found : Record
  pub finds : FindsRecord h found
  pub legal : IsLegal found
  pub after : seen ≡ after_drop h.number merge found
